-- Links below which all that isn't loaded stands: they stand where links are joined and parted, where nodes are added, and where the volume is read.
use Rattle.std.proofs.Common.{◌≡◌, ℕ, zero, suc, ◌<◌, List, [], ◌∷◌, ◌++◌, length, drop, take, ap, sym, ◌∙◌, subst, arith}
use Rattle.std.specs.Prelude.{Option, None, Some, is_none, if◌then◌else◌, slice_get}
use Rattle.std.proofs.lemmas.List.{length-map, map-append}
use Rattle.index_media.specs.KeyedRow.{KeyedRow, no_more, node_in}
use Rattle.node_cache.specs.OnVolume.{IsOnVolume}
use Rattle.node_cache.specs.OnVolumeLaws.{on_volume_moved}
use Rattle.told_value.specs.declared.told.Told.{Told}
use Rattle.table_nodes.specs.Beyond.{children_by}
use Rattle.table_nodes.specs.LinkLaws.{before_none, links_in_added, links_in_append, links_in_pushed, links_kept, node_pushed}
use Rattle.table_nodes.specs.Links.{AreLinksIn, AreNodesAdded, IsLinkIn}
use Rattle.table_nodes.specs.NodeView.{NodeView, children_in, node_views, row_of, stretch_at}
use Rattle.table_nodes.specs.StubLaws.{stub_seen, unplaced_added, unplaced_seen}
use Rattle.table_nodes.specs.Stubs.{unplaced, unplaced_node, IsStubOf}
use Rattle.table_nodes.specs.declared.link.Link.{Link}
use Rattle.table_nodes.specs.declared.link.Link.TheVariants.{ToLeaf, ToNode}
use Rattle.table_nodes.specs.declared.node.NodePlace.{NodePlace}
use Rattle.table_nodes.specs.declared.node.TableNode.{TableNode}
use Rattle.table_nodes.specs.declared.seen.MediumSeen.{MediumSeen}
use Rattle.table_nodes.specs.declared.stub_node.StubNode.{StubNode}
use Rattle.ubi_volume.specs.Volume.{VolumeState, Keeps, SameShape}
use Rattle.ubifs_base.specs.declared.key.Key.{Key}
use Rattle.node_table.specs.Unloaded.{AreStandingLinks, DoesNodeStand, DoesRootStand, DoLinksStand}
use Rattle.node_table.specs.StandingRows.{all_weaker, row_weaker}
use Rattle.node_table.specs.UnloadedLaws.{below_first, dropped, link_again, link_first, links_moved, links_stand, taken}

-- ---- joined, and parted
row_joined : (s : VolumeState) (seen : List NodeView) (xs ys : List Link) → IsOnVolume s (row_of seen xs) → IsOnVolume s (row_of seen ys) → IsOnVolume s (row_of seen (xs ++ ys))
row_joined s seen [] ys h k = k
row_joined s seen (x ∷ xs) ys h k =
    let p = link_first s seen x (row_of seen xs) h in
    link_again s seen x (row_of seen (xs ++ ys)) p.0 (row_joined s seen xs ys p.1 k)

in_taken : (n k : ℕ) (links : List Link) → AreLinksIn n links → AreLinksIn n (take k links)
in_taken n zero links h = tt
in_taken n (suc k) [] h = tt
in_taken n (suc k) (link ∷ links) h = (h.0, in_taken n k links h.1)

in_dropped : (n k : ℕ) (links : List Link) → AreLinksIn n links → AreLinksIn n (drop k links)
in_dropped n zero links h = h
in_dropped n (suc k) [] h = tt
in_dropped n (suc k) (link ∷ links) h = in_dropped n k links h.1

pub standing_none : (s : VolumeState) (nodes : List TableNode) → AreStandingLinks s nodes []
standing_none s nodes = record { there = tt; stand = tt }

pub standing_leaf : (s : VolumeState) (nodes : List TableNode) (link : Link) → IsLinkIn 0 link → AreStandingLinks s nodes (link ∷ [])
standing_leaf s nodes (ToLeaf x) h = record { there = (tt, tt); stand = tt }
standing_leaf s nodes (ToNode key number) h = absurd (omega (arith, h))

pub standing_both : (s : VolumeState) (nodes : List TableNode) (xs ys : List Link) → AreStandingLinks s nodes xs → AreStandingLinks s nodes ys → AreStandingLinks s nodes (xs ++ ys)
standing_both s nodes xs ys h k = record {
  there = links_in_append (length nodes) xs ys h.there k.there;
  stand = row_joined s (node_views (unplaced nodes)) xs ys h.stand k.stand;
}

pub standing_taken : (s : VolumeState) (nodes : List TableNode) (k : ℕ) (links : List Link) → AreStandingLinks s nodes links → AreStandingLinks s nodes (take k links)
standing_taken s nodes k links h = record { there = in_taken (length nodes) k links h.there; stand = taken s (node_views (unplaced nodes)) k links h.stand }

pub standing_dropped : (s : VolumeState) (nodes : List TableNode) (k : ℕ) (links : List Link) → AreStandingLinks s nodes links → AreStandingLinks s nodes (drop k links)
standing_dropped s nodes k links h = record { there = in_dropped (length nodes) k links h.there; stand = dropped s (node_views (unplaced nodes)) k links h.stand }

-- the first link, and those behind it
pub standing_first : (s : VolumeState) (nodes : List TableNode) (links rest : List Link) (link : Link) → links ≡ link ∷ rest → AreStandingLinks s nodes links → AreStandingLinks s nodes (link ∷ [])
standing_first s nodes links rest link is h =
    let own = subst (λ (l : List Link). AreStandingLinks s nodes l) is h in
    let p = link_first s (node_views (unplaced nodes)) link (row_of (node_views (unplaced nodes)) rest) own.stand in
    record { there = (own.there.0, tt); stand = p.0 }

pub standing_rest : (s : VolumeState) (nodes : List TableNode) (links rest : List Link) (link : Link) → links ≡ link ∷ rest → AreStandingLinks s nodes links → AreStandingLinks s nodes rest
standing_rest s nodes links rest link is h =
    let own = subst (λ (l : List Link). AreStandingLinks s nodes l) is h in
    let p = link_first s (node_views (unplaced nodes)) link (row_of (node_views (unplaced nodes)) rest) own.stand in
    record { there = own.there.1; stand = p.1 }

-- ---- the volume was only read, and nodes were added
row_added : (s : VolumeState) (old new : List TableNode) (links : List Link) → AreNodesAdded old new → AreLinksIn (length old) links → DoLinksStand s old links → DoLinksStand s new links
row_added s old new links added within h =
    let was = node_views (unplaced old) in
    let now = node_views (unplaced new) in
    let L : ℕ → Type 0 = λ k. AreLinksIn k links in
    let there = subst L (sym (length-map old unplaced_node)) within in
    let same : row_of now links ≡ row_of was links =
    sym (before_none now links) ∙ links_kept (unplaced old) (unplaced new) links no_more (unplaced_added old new added) there ∙ before_none was links in
    subst (λ (r : KeyedRow). IsOnVolume s r) (sym same) h

pub standing_on : (a b : VolumeState) (old new : List TableNode) (links : List Link) → Keeps a b → SameShape a b → AreNodesAdded old new → AreStandingLinks a old links → AreStandingLinks b new links
standing_on a b old new links keeps shape added h = record { there = links_in_added old new links added h.there; stand = links_moved a b new links keeps shape (row_added a old new links added h.there h.stand) }

pub standing_added : (s : VolumeState) (old new : List TableNode) (links : List Link) → AreNodesAdded old new → AreStandingLinks s old links → AreStandingLinks s new links
standing_added s old new links added h = record { there = links_in_added old new links added h.there; stand = row_added s old new links added h.there h.stand }

-- ---- a node that is loaded was added, and a link to it was pushed
loaded_stands : (s : VolumeState) (key : Key) (level : ℕ) (place : Option NodePlace) (beyond : Option (Told MediumSeen)) (linked : KeyedRow) → beyond ≡ None → IsOnVolume s linked
    → IsOnVolume s (node_in key (stretch_at (if is_none beyond then None else place)) (children_by level (if is_none beyond then None else place) beyond linked) no_more)
loaded_stands s key level place None linked none h = (tt, h, tt)
loaded_stands s key level place (Some told) linked none h = absurd cc

pub standing_pushed : (s : VolumeState) (old new : List TableNode) (n : TableNode) (number : ℕ) (key : Key) (made : List Link) → new ≡ old ++ n ∷ [] → number ≡ length old → n.beyond ≡ None → AreStandingLinks s old n.links.items
    → AreStandingLinks s old made → AreStandingLinks s new (made ++ ToNode key number ∷ [])
standing_pushed s old new n number key made is last loaded below h =
    let was = node_views (unplaced old) in
    let now = node_views (unplaced new) in
    let a : AreNodesAdded old new = record { more = n ∷ []; is = is } in
    let parts : unplaced new ≡ unplaced old ++ unplaced_node n ∷ [] = ap unplaced is ∙ map-append unplaced_node old (n ∷ []) in
    let one = node_pushed (unplaced old) (unplaced new) (unplaced_node n) number key [] no_more parts (last ∙ sym (length-map old unplaced_node)) tt in
    let own = subst (λ (r : KeyedRow). IsOnVolume s r) (sym one) (loaded_stands s key n.level n.place n.beyond (row_of was n.links.items) loaded below.stand) in
    let last_row : IsOnVolume s (row_of now (ToNode key number ∷ [])) = subst (λ (r : KeyedRow). IsOnVolume s r) (before_none now (ToNode key number ∷ [])) own in
    record {
      there = links_in_pushed old new n number key made is last h.there;
      stand = row_joined s now made (ToNode key number ∷ []) (row_added s old new made a h.there h.stand) last_row;
    }

-- a root to which they lead
pub standing_root : (s : VolumeState) (nodes : List TableNode) (key : Key) (number : ℕ) → AreStandingLinks s nodes (ToNode key number ∷ []) → DoesRootStand s nodes (Some (record { key = key; number = number }))
standing_root s nodes key number h = h.stand

-- ---- the children of a node
-- of one that is loaded: its links lead to them
pub standing_loaded : (s : VolumeState) (nodes : List TableNode) (number : ℕ) (links : List Link) → children_in (slice_get (node_views (unplaced nodes)) number) ≡ row_of (node_views (unplaced nodes)) links
    → AreLinksIn (length nodes) links → DoesNodeStand s nodes number → AreStandingLinks s nodes links
standing_loaded s nodes number links is within h = record { there = within; stand = links_stand s nodes number links is h }

-- of one that isn't: nodes were added for them, over a volume that was only read
pub standing_opened : (a b : VolumeState) (old new : List TableNode) (number : ℕ) (n : TableNode) (stub : StubNode) (links : List Link) → Keeps a b → SameShape a b → slice_get old number ≡ Some n → IsStubOf n stub
    → children_in (slice_get (node_views old) number) ≡ row_of (node_views new) links → AreLinksIn (length new) links → DoesNodeStand a old number → AreStandingLinks b new links
standing_opened a b old new number n stub links keeps shape there is shows within h =
    let same : slice_get (node_views (unplaced old)) number ≡ slice_get (node_views old) number = unplaced_seen old number n stub there is ∙ sym (stub_seen old number n stub there is) in
    let below = below_first a h.0 (slice_get (node_views (unplaced old)) number) h.1 in
    let row : IsOnVolume a (row_of (node_views new) links) = subst (λ (r : KeyedRow). IsOnVolume a r) (ap children_in same ∙ shows) below in
    record { there = within; stand = on_volume_moved a b (row_of (node_views (unplaced new)) links) keeps shape (row_weaker a.holds (λ place sqnum group. place.lnum < a.leb_cnt) (node_views (unplaced new)) (node_views new) links (all_weaker a.holds (λ place sqnum group. place.lnum < a.leb_cnt) new) row) }

-- Walks along nodes some of which aren't loaded: what stands at a link, behind a link, and below a node, and the row at which a walk goes on on a volume.
use Rattle.std.proofs.Common.{◌≡◌, ℕ, zero, suc, ◌+◌, true, false, List, [], ◌∷◌, ◌++◌, drop, take, length, refl, ap, sym, ◌∙◌, subst, append_assoc}
use Rattle.std.specs.Prelude.{◌&&◌, Option, None, Some, is_none, is_some, if◌then◌else◌, slice_get}
use Rattle.std.proofs.lemmas.List.{length-map, map-append}
use Rattle.index_tree.specs.Shape.{fits}
use Rattle.index_media.specs.KeyedRow.{KeyedRow, no_more, bare}
use Rattle.index_media.specs.Clean.{placed_of}
use Rattle.index_media.specs.PlacedRow.{PlacedRow, Stretch, ended, node_at, plain}
use Rattle.media_sys.specs.declared.branch.Branch.{Branch}
use Rattle.node_cache.specs.CleanRows.{row_plain}
use Rattle.node_cache.specs.Loaded.{IsRowOn}
use Rattle.node_cache.specs.OnVolume.{IsOnVolume}
use Rattle.node_cache.specs.OnVolumeLaws.{node_on_volume, on_volume_moved}
use Rattle.told_value.specs.declared.told.Told.{Told}
use Rattle.table_nodes.specs.LinkLaws.{before_none, links_kept, links_there}
use Rattle.table_nodes.specs.Links.{AreLinksIn}
use Rattle.table_nodes.specs.NodeView.{NodeView, children_in, linked_before, node_before, node_view_of, node_views, row_of}
use Rattle.table_nodes.specs.NodeViewLaws.{children_fit, get_seam, sound_at, views_append, views_length, views_more}
use Rattle.table_nodes.specs.Sound.{AreSoundViews}
use Rattle.table_nodes.specs.StubLaws.{linked_row, stub_seen, stub_view, unplaced_added, unplaced_seen}
use Rattle.table_nodes.specs.Stubs.{is_stub, unplaced, unplaced_node}
use Rattle.table_nodes.specs.declared.link.Link.{Link}
use Rattle.table_nodes.specs.declared.link.Link.TheVariants.{ToLeaf, ToNode}
use Rattle.table_nodes.specs.declared.node.NodePlace.{NodePlace}
use Rattle.table_nodes.specs.declared.node.TableNode.{TableNode}
use Rattle.table_nodes.specs.declared.seen.MediumSeen.{MediumSeen}
use Rattle.ubi_volume.specs.Volume.{VolumeState, Keeps, SameShape}
use Rattle.ubifs_base.specs.declared.key.Key.{Key}
use Rattle.node_table.specs.Unloaded.{DoesLinkStand, DoesNodeStand, DoLinksStand, IsUnloaded}
use Rattle.node_table.specs.declared.opening.Unloaded.{Unloaded}

-- ---- a link, and those behind it
pub node_first : (s : VolumeState) (key : Key) (o : Option NodeView) (rest : KeyedRow) → IsOnVolume s (node_before key o rest) → IsOnVolume s (node_before key o no_more) × IsOnVolume s rest
node_first s key None rest h = ((h.0, h.1, tt), h.2)
node_first s key (Some v) rest h = ((h.0, h.1, tt), h.2)

pub link_first : (s : VolumeState) (seen : List NodeView) (link : Link) (rest : KeyedRow) → IsOnVolume s (linked_before seen link rest) → IsOnVolume s (linked_before seen link no_more) × IsOnVolume s rest
link_first s seen (ToLeaf x) rest h = (tt, h)
link_first s seen (ToNode key number) rest h = node_first s key (slice_get seen number) rest h

node_again : (s : VolumeState) (key : Key) (o : Option NodeView) (rest : KeyedRow) → IsOnVolume s (node_before key o no_more) → IsOnVolume s rest → IsOnVolume s (node_before key o rest)
node_again s key None rest h r = (h.0, h.1, r)
node_again s key (Some v) rest h r = (h.0, h.1, r)

pub link_again : (s : VolumeState) (seen : List NodeView) (link : Link) (rest : KeyedRow) → IsOnVolume s (linked_before seen link no_more) → IsOnVolume s rest → IsOnVolume s (linked_before seen link rest)
link_again s seen (ToLeaf x) rest h r = r
link_again s seen (ToNode key number) rest h r = node_again s key (slice_get seen number) rest h r

pub first_stands : (s : VolumeState) (nodes : List TableNode) (links rest : List Link) (link : Link) → links ≡ link ∷ rest → DoLinksStand s nodes links → DoesLinkStand s nodes link
first_stands s nodes links rest link is h =
    let seen = node_views (unplaced nodes) in
    (link_first s seen link (row_of seen rest) (subst (λ (l : List Link). IsOnVolume s (row_of seen l)) is h)).0

pub others_stand : (s : VolumeState) (nodes : List TableNode) (links rest : List Link) (link : Link) → links ≡ link ∷ rest → DoLinksStand s nodes links → DoLinksStand s nodes rest
others_stand s nodes links rest link is h =
    let seen = node_views (unplaced nodes) in
    (link_first s seen link (row_of seen rest) (subst (λ (l : List Link). IsOnVolume s (row_of seen l)) is h)).1

pub dropped : (s : VolumeState) (seen : List NodeView) (n : ℕ) (links : List Link) → IsOnVolume s (row_of seen links) → IsOnVolume s (row_of seen (drop n links))
dropped s seen zero links h = h
dropped s seen (suc n) [] h = tt
dropped s seen (suc n) (link ∷ links) h = dropped s seen n links (link_first s seen link (row_of seen links) h).1

pub taken : (s : VolumeState) (seen : List NodeView) (n : ℕ) (links : List Link) → IsOnVolume s (row_of seen links) → IsOnVolume s (row_of seen (take n links))
taken s seen zero links h = tt
taken s seen (suc n) [] h = tt
taken s seen (suc n) (link ∷ links) h =
    let p = link_first s seen link (row_of seen links) h in
    link_again s seen link (row_of seen (take n links)) p.0 (taken s seen n links p.1)

pub back_stands : (s : VolumeState) (nodes : List TableNode) (links back : List Link) (n : ℕ) → back ≡ drop n links → DoLinksStand s nodes links → DoLinksStand s nodes back
back_stands s nodes links back n is h =
    let seen = node_views (unplaced nodes) in
    subst (λ (l : List Link). IsOnVolume s (row_of seen l)) (sym is) (dropped s seen n links h)

pub front_stands : (s : VolumeState) (nodes : List TableNode) (links front : List Link) (n : ℕ) → front ≡ take n links → DoLinksStand s nodes links → DoLinksStand s nodes front
front_stands s nodes links front n is h =
    let seen = node_views (unplaced nodes) in
    subst (λ (l : List Link). IsOnVolume s (row_of seen l)) (sym is) (taken s seen n links h)

-- ---- what a link leads to
pub below_first : (s : VolumeState) (key : Key) (o : Option NodeView) → IsOnVolume s (node_before key o no_more) → IsOnVolume s (children_in o)
below_first s key None h = tt
below_first s key (Some v) h = h.1

-- the links of a node that is loaded
pub links_stand : (s : VolumeState) (nodes : List TableNode) (number : ℕ) (links : List Link) → children_in (slice_get (node_views (unplaced nodes)) number) ≡ row_of (node_views (unplaced nodes)) links
    → DoesNodeStand s nodes number → DoLinksStand s nodes links
links_stand s nodes number links is h = subst (λ (r : KeyedRow). IsOnVolume s r) is (below_first s h.0 (slice_get (node_views (unplaced nodes)) number) h.1)

-- ---- a volume that keeps all keeps what stands
pub links_moved : (a b : VolumeState) (nodes : List TableNode) (links : List Link) → Keeps a b → SameShape a b → DoLinksStand a nodes links → DoLinksStand b nodes links
links_moved a b nodes links keeps shape h = on_volume_moved a b (row_of (node_views (unplaced nodes)) links) keeps shape h

pub link_moved : (a b : VolumeState) (nodes : List TableNode) (link : Link) → Keeps a b → SameShape a b → DoesLinkStand a nodes link → DoesLinkStand b nodes link
link_moved a b nodes link keeps shape h = on_volume_moved a b (linked_before (node_views (unplaced nodes)) link no_more) keeps shape h

-- ---- a node that isn't loaded
-- the row below it stands on the volume, where a walk goes on
pub record IsWalkedOn (s : VolumeState) (fanout : ℕ) (nodes : List TableNode) (number : ℕ) (found : Unloaded) : Type 0 where
  pub row : PlacedRow
  pub on : IsRowOn s fanout (found.level + 1) (node_at found.branch row ended)
  pub is : plain row ≡ bare (children_in (slice_get (node_views nodes) number))

pub walked_on : (s : VolumeState) (fanout : ℕ) (nodes : List TableNode) (number : ℕ) (found : Unloaded) → AreSoundViews fanout (node_views nodes) → IsUnloaded nodes number found → DoesNodeStand s nodes number
    → IsWalkedOn s fanout nodes number found
walked_on s fanout nodes number found sound u h =
    let view = stub_view u.stub in
    let there = stub_seen nodes number u.node u.stub u.there u.is in
    let own = sound_at fanout (node_views nodes) number view sound there in
    let place : Stretch = record { lnum = u.stub.place.lnum; offs = u.stub.place.offs; len = u.stub.place.len } in
    let P : Option NodeView → Type 0 = λ o. IsOnVolume s (node_before h.0 o no_more) in
    let stands = subst P (unplaced_seen nodes number u.node u.stub u.there u.is) h.1 in
    let on = node_on_volume s fanout u.stub.level h.0 place view.children own.0 own.1 own.2 stands in
    let B : Branch → Type 0 = λ b. IsRowOn s fanout (u.stub.level + 1) (node_at b (placed_of view.children) ended) in
    let L : ℕ → Type 0 = λ n. IsRowOn s fanout (n + 1) (node_at found.branch (placed_of view.children) ended) in
    record {
      row = placed_of view.children;
      on = subst L (sym u.level) (subst B (sym u.branch) on);
      is = row_plain view.children ∙ sym (ap (λ (o : Option NodeView). bare (children_in o)) there);
    }

-- ---- a node that is loaded, where each loaded node is as if it were dirty
record SplitAt (nodes : List TableNode) (i : ℕ) (n : TableNode) : Type 0 where
  front : List TableNode
  back : List TableNode
  is : nodes ≡ front ++ n ∷ back
  long : length front ≡ i

split_at : (nodes : List TableNode) (i : ℕ) (n : TableNode) → slice_get nodes i ≡ Some n → SplitAt nodes i n
split_at [] i n h = absurd cc
split_at (m ∷ ms) zero n h = let same : m ≡ n = cc in record { front = []; back = ms; is = ap (λ (x : TableNode). x ∷ ms) same; long = refl }
split_at (m ∷ ms) (suc i) n h =
    let p = split_at ms i n h in
    record { front = m ∷ p.front; back = p.back; is = ap (λ (x : List TableNode). m ∷ x) p.is; long = ap suc p.long }

view_between : (front back : List TableNode) (n : TableNode) → slice_get (node_views (front ++ n ∷ back)) (length front) ≡ Some (node_view_of (node_views front) n)
view_between front back n =
    let seen = node_views front in
    let v = node_view_of seen n in
    let p = views_more (seen ++ v ∷ []) back in
    let whole : node_views (front ++ n ∷ back) ≡ seen ++ v ∷ p.0 = views_append [] front (n ∷ back) ∙ p.1 ∙ append_assoc seen (v ∷ []) p.0 in
    ap (λ (w : List NodeView). slice_get w (length front)) whole ∙ ap (λ (k : ℕ). slice_get (seen ++ v ∷ p.0) k) (sym (views_length front)) ∙ get_seam seen v p.0

view_at : (nodes front back : List TableNode) (i : ℕ) (n : TableNode) → nodes ≡ front ++ n ∷ back → length front ≡ i → slice_get (node_views nodes) i ≡ Some (node_view_of (node_views front) n)
view_at nodes front back i n is long =
    ap (λ (l : List TableNode). slice_get (node_views l) i) is ∙ ap (λ (k : ℕ). slice_get (node_views (front ++ n ∷ back)) k) (sym long) ∙ view_between front back n

stays_loaded : (beyond : Option (Told MediumSeen)) (place : Option NodePlace) → (is_some beyond && is_some place) ≡ false → (is_some beyond && is_some (if is_none beyond then None else place)) ≡ false
stays_loaded None place h = refl
stays_loaded (Some told) place h = h

pub unplaced_row : (fanout : ℕ) (nodes : List TableNode) (i : ℕ) (n : TableNode) → AreSoundViews fanout (node_views nodes) → slice_get nodes i ≡ Some n → is_stub n ≡ false
    → children_in (slice_get (node_views (unplaced nodes)) i) ≡ row_of (node_views (unplaced nodes)) n.links.items
unplaced_row fanout nodes i n sound h loaded =
    let p = split_at nodes i n h in
    let links = n.links.items in
    let seen = node_views p.front in
    let v = node_view_of seen n in
    let own = sound_at fanout (node_views nodes) i v sound (view_at nodes p.front p.back i n p.is p.long) in
    let F : KeyedRow → Type 0 = λ r. fits fanout (bare r) ≡ true in
    let there = links_there fanout seen links (subst F (linked_row seen n loaded) (children_fit fanout v own)) in
    let L : ℕ → Type 0 = λ k. AreLinksIn k links in
    let within = subst L (views_length p.front ∙ sym (length-map p.front unplaced_node)) there in
    let added = unplaced_added p.front nodes (record { more = n ∷ p.back; is = p.is }) in
    let kept : row_of (node_views (unplaced nodes)) links ≡ row_of (node_views (unplaced p.front)) links =
    sym (before_none (node_views (unplaced nodes)) links) ∙ links_kept (unplaced p.front) (unplaced nodes) links no_more added within ∙ before_none (node_views (unplaced p.front)) links in
    let parts : unplaced nodes ≡ unplaced p.front ++ unplaced_node n ∷ unplaced p.back = ap unplaced p.is ∙ map-append unplaced_node p.front (n ∷ p.back) in
    ap children_in (view_at (unplaced nodes) (unplaced p.front) (unplaced p.back) i (unplaced_node n) parts (length-map p.front unplaced_node ∙ p.long))
    ∙ linked_row (node_views (unplaced p.front)) (unplaced_node n) (stays_loaded n.beyond n.place loaded)
    ∙ sym kept

-- What a copy of a node shows in another table: a clean one isn't loaded there, a dirty one leads to copies.
use Rattle.std.proofs.Common.{◌≡◌, ℕ, ◌+◌, true, List, [], ◌∷◌, ◌++◌, length, ap, sym, ◌∙◌, subst}
use Rattle.std.specs.Prelude.{Option, None, Some, slice_get}
use Rattle.ubifs_base.specs.declared.key.Key.{Key}
use Rattle.index_tree.specs.Shape.{fits}
use Rattle.index_tree.specs.declared.leaf.Leaf.{Leaf}
use Rattle.media_sys.specs.declared.branch.Branch.{Branch}
use Rattle.index_media.specs.Clean.{placed_of}
use Rattle.index_media.specs.InsertionSound.{AreKeys}
use Rattle.index_media.specs.KeyedKeys.{AreKeysBounded}
use Rattle.index_media.specs.KeyedRow.{KeyedRow, no_more, node_in, all_clean, bare}
use Rattle.index_media.specs.PlacedRow.{ended, node_at, stretch_of, Stretch}
use Rattle.node_cache.specs.Loaded.{IsRowOn}
use Rattle.node_cache.specs.OnVolume.{IsOnVolume}
use Rattle.node_cache.specs.OnVolumeLaws.{node_on_volume}
use Rattle.table_nodes.specs.Beyond.{branch_at_place}
use Rattle.table_nodes.specs.BeyondLaws.{dirty_row}
use Rattle.table_nodes.specs.LinkLaws.{before_append, links_kept, links_there}
use Rattle.table_nodes.specs.Links.{row_before, AreLinksIn, AreNodesAdded}
use Rattle.table_nodes.specs.NodeView.{IsRootIn, NodeView, children_in, linked_before, node_before, node_view_of, node_views, row_of, stretch_at, tree_at}
use Rattle.table_nodes.specs.NodeViewLaws.{children_fit, views_length}
use Rattle.table_nodes.specs.Sound.{IsSoundView}
use Rattle.table_nodes.specs.declared.link.Link.{Link}
use Rattle.table_nodes.specs.declared.link.Link.TheVariants.{ToLeaf, ToNode}
use Rattle.table_nodes.specs.declared.node.NodePlace.{NodePlace}
use Rattle.table_nodes.specs.declared.node.Root.{Root}
use Rattle.table_nodes.specs.declared.node.TableNode.{TableNode}
use Rattle.ubi_volume.specs.Volume.{VolumeState}
use Rattle.node_table.specs.Staging.{IsSoundRoot}
use Rattle.node_table.specs.StandingLinks.{standing_added, standing_both, standing_leaf}
use Rattle.node_table.specs.Unloaded.{AreStandingLinks}
use Rattle.node_table.specs.UnloadedLaws.{below_first}
use Rattle.node_table.proofs.Cleaning.{clean_placed}

-- ---- a clean node
-- what stands of a node of which this is seen
node_stands : (s : VolumeState) (key : Key) (seen : List NodeView) (number : ℕ) (n : TableNode) (place : NodePlace) → n.place ≡ Some place → slice_get seen number ≡ Some (node_view_of seen n)
    → IsOnVolume s (node_before key (slice_get seen number) no_more) → IsOnVolume s (node_in key (stretch_at (Some place)) (node_view_of seen n).children no_more)
node_stands s key seen number n place placed is h =
    let P : Option NodeView → Type 0 = λ o. IsOnVolume s (node_before key o no_more) in
    let Q : Option NodePlace → Type 0 = λ p. IsOnVolume s (node_in key (stretch_at p) (node_view_of seen n).children no_more) in
    subst Q placed (subst P is h)

-- it is a row on the volume, below a branch to its place
pub placed_on : (s : VolumeState) (fanout other : ℕ) (key : Key) (seen : List NodeView) (number : ℕ) (n : TableNode) (place : NodePlace) (branch : Branch) → other ≡ fanout → n.place ≡ Some place → branch ≡ branch_at_place place
    → slice_get seen number ≡ Some (node_view_of seen n) → IsSoundView fanout (node_view_of seen n) → IsOnVolume s (node_before key (slice_get seen number) no_more)
    → IsRowOn s other (n.level + 1) (node_at branch (placed_of (node_view_of seen n).children) ended)
placed_on s fanout other key seen number n place branch same placed to is own h =
    let children = (node_view_of seen n).children in
    let at : Stretch = record { lnum = place.lnum; offs = place.offs; len = place.len } in
    let on = node_on_volume s fanout n.level key at children own.0 own.1 own.2 (node_stands s key seen number n place placed is h) in
    let B : Branch → Type 0 = λ b. IsRowOn s fanout (n.level + 1) (node_at b (placed_of children) ended) in
    let F : ℕ → Type 0 = λ f. IsRowOn s f (n.level + 1) (node_at branch (placed_of children) ended) in
    subst F (sym same) (subst B (sym to) on)

-- and shows what that row shows
pub placed_shown : (s : VolumeState) (key : Key) (seen : List NodeView) (number : ℕ) (n : TableNode) (place : NodePlace) (branch : Branch) → n.place ≡ Some place → branch ≡ branch_at_place place
    → slice_get seen number ≡ Some (node_view_of seen n) → IsOnVolume s (node_before key (slice_get seen number) no_more)
    → (other : Key) (rest : KeyedRow) → node_in other (Some (stretch_of branch)) (all_clean (placed_of (node_view_of seen n).children)) rest ≡ node_before other (slice_get seen number) rest
placed_shown s key seen number n place branch placed to is h other rest =
    let children = (node_view_of seen n).children in
    let own = (node_stands s key seen number n place placed is h).0 in
    ap (λ (b : Branch). node_in other (Some (stretch_of b)) (all_clean (placed_of children)) rest) to
    ∙ ap (λ (r : KeyedRow). node_in other (stretch_at (Some place)) r rest) (sym (clean_placed children own.clean))
    ∙ ap (λ (p : Option NodePlace). node_in other (stretch_at p) children rest) (sym placed)
    ∙ ap (λ (o : Option NodeView). node_before other o rest) (sym is)

-- ---- a dirty node
-- its links lead to its children, and all that stands below it stands below them
pub record IsOpenedDirty (s : VolumeState) (nodes : List TableNode) (number : ℕ) (links : List Link) : Type 0 where
  pub children : children_in (slice_get (node_views nodes) number) ≡ row_of (node_views nodes) links
  pub within : AreLinksIn (length nodes) links
  pub stands : IsOnVolume s (row_of (node_views nodes) links)

-- a dirty node of the table is so
pub dirty_links : (s : VolumeState) (fanout : ℕ) (key : Key) (nodes : List TableNode) (number : ℕ) (n : TableNode) (links : List Link) → n.place ≡ None → links ≡ n.links.items
    → slice_get (node_views nodes) number ≡ Some (node_view_of (node_views nodes) n) → IsSoundView fanout (node_view_of (node_views nodes) n)
    → IsOnVolume s (node_before key (slice_get (node_views nodes) number) no_more) → IsOpenedDirty s nodes number links
dirty_links s fanout key nodes number n links dirty same is own h =
    let seen = node_views nodes in
    let row : (node_view_of seen n).children ≡ row_of seen links = dirty_row seen n dirty ∙ ap (row_of seen) (sym same) in
    let whole = ap children_in is ∙ row in
    let F : KeyedRow → Type 0 = λ r. fits fanout (bare r) ≡ true in
    let L : ℕ → Type 0 = λ k. AreLinksIn k links in
    record {
      children = whole;
      within = subst L (views_length nodes) (links_there fanout seen links (subst F row (children_fit fanout (node_view_of seen n) own)));
      stands = subst (λ (r : KeyedRow). IsOnVolume s r) whole (below_first s key (slice_get seen number) h);
    }

-- over copies that show the same row it is as sound
pub copies_sound : (fanout other : ℕ) (seen : List NodeView) (n : TableNode) (links : List Link) (row : KeyedRow) → other ≡ fanout → n.place ≡ None → links ≡ n.links.items → row ≡ row_of seen links
    → IsSoundView fanout (node_view_of seen n) → IsSoundView other (record { level = n.level; place = None; children = row })
copies_sound fanout other seen n links row same dirty items made own =
    let whole : (node_view_of seen n).children ≡ row = dirty_row seen n dirty ∙ ap (row_of seen) (sym items) ∙ sym made in
    let P : KeyedRow → Type 0 = λ r. IsSoundView fanout (record { level = n.level; place = None; children = r }) in
    let F : ℕ → Type 0 = λ f. IsSoundView f (record { level = n.level; place = None; children = row }) in
    subst F (sym same) (subst P whole own)

-- and shows the same
pub dirty_shown : (nodes : List TableNode) (number : ℕ) (n : TableNode) (row : KeyedRow) → n.place ≡ None → slice_get (node_views nodes) number ≡ Some (node_view_of (node_views nodes) n)
    → children_in (slice_get (node_views nodes) number) ≡ row → (key : Key) (rest : KeyedRow) → node_in key None row rest ≡ node_before key (slice_get (node_views nodes) number) rest
dirty_shown nodes number n row dirty is children key rest =
    let seen = node_views nodes in
    ap (λ (r : KeyedRow). node_in key None r rest) (sym children ∙ ap children_in is)
    ∙ ap (λ (p : Option NodePlace). node_in key (stretch_at p) (node_view_of seen n).children rest) (sym dirty)
    ∙ ap (λ (o : Option NodeView). node_before key o rest) (sym is)

-- ---- a link
-- a copy of it was pushed: it shows the same, and stands with the others
pub record IsLinkCopied (s : VolumeState) (seen : List NodeView) (old new : List TableNode) (link : Link) (was copies : List Link) : Type 0 where
  pub copied : (rest : KeyedRow) → row_before (node_views new) copies rest ≡ row_before (node_views old) was (linked_before seen link rest)
  pub there : AreStandingLinks s new copies

-- a link to a leaf is its own copy
pub leaf_copied : (s : VolumeState) (seen : List NodeView) (old new : List TableNode) (x : Leaf) (link : Link) (was pushed copies : List Link) → new ≡ old → link ≡ ToLeaf x → copies ≡ pushed → pushed ≡ was ++ ToLeaf x ∷ []
    → AreStandingLinks s old was → IsLinkCopied s seen old new link was copies
leaf_copied s seen old new x link was pushed copies same is alike made h =
    let items = alike ∙ made in
    let P : List TableNode → Type 0 = λ l. AreStandingLinks s l copies in
    let Q : List Link → Type 0 = λ l. AreStandingLinks s old l in
    record {
      copied = λ rest.
          ap (λ (l : List TableNode). row_before (node_views l) copies rest) same ∙ ap (λ (v : List Link). row_before (node_views old) v rest) items ∙ before_append (node_views old) was (ToLeaf x ∷ []) rest
          ∙ ap (λ (l : Link). row_before (node_views old) was (linked_before seen l rest)) (sym is);
      there = subst P (sym same) (subst Q (sym items) (standing_both s old was (ToLeaf x ∷ []) h (standing_leaf s old (ToLeaf x) tt)));
    }

-- a link to a node is copied as one to the node's copy, over a longer table
pub node_copied : (s : VolumeState) (seen : List NodeView) (old new : List TableNode) (key : Key) (number copy : ℕ) (link : Link) (was pushed copies : List Link) → AreNodesAdded old new → link ≡ ToNode key number
    → copies ≡ pushed → pushed ≡ was ++ ToNode key copy ∷ [] → ((rest : KeyedRow) → linked_before (node_views new) (ToNode key copy) rest ≡ node_before key (slice_get seen number) rest)
    → AreStandingLinks s new (ToNode key copy ∷ []) → AreStandingLinks s old was → IsLinkCopied s seen old new link was copies
node_copied s seen old new key number copy link was pushed copies added is alike made shown one h =
    let items = alike ∙ made in
    let Q : List Link → Type 0 = λ l. AreStandingLinks s new l in
    record {
      copied = λ rest.
          ap (λ (v : List Link). row_before (node_views new) v rest) items ∙ before_append (node_views new) was (ToNode key copy ∷ []) rest
          ∙ links_kept old new was (linked_before (node_views new) (ToNode key copy) rest) added h.there ∙ ap (row_before (node_views old) was) (shown rest)
          ∙ ap (λ (l : Link). row_before (node_views old) was (linked_before seen l rest)) (sym is);
      there = subst Q (sym items) (standing_both s new was (ToNode key copy ∷ []) (standing_added s old new was added h) one);
    }

-- ---- a root
-- one that shows the same is as sound
pub root_copied : (old new : List TableNode) (root other : Option Root) → IsRootIn new other → tree_at new other ≡ tree_at old root → IsSoundRoot old root → IsSoundRoot new other
root_copied old new root other there same h =
    let B : KeyedRow → Type 0 = λ r. AreKeysBounded 0 None r in
    let K : KeyedRow → Type 0 = λ r. AreKeys r in
    record { there = there; bounded = subst B (sym same) h.bounded; keys = subst K (sym same) h.keys }

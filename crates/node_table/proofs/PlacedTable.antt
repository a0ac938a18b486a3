-- A table in which a node that was ready has got a place.
use Rattle.std.proofs.Common.{◌≡◌, ℕ, zero, suc, ◌≤◌, ◌<◌, true, List, [], ◌∷◌, length, refl, ap, sym, subst, arith}
use Rattle.std.specs.Prelude.{Option, Some, map, slice_get, slice_set}
use Rattle.node_table.specs.Unloaded.{are_loaded_if_dirty}
use Rattle.node_table.specs.Clean.{IsReadyNode}
use Rattle.table_nodes.specs.Clean.{are_clean_below}
use Rattle.node_table.specs.Dirty.{dirty_below, dirty_lists}
use Rattle.table_nodes.specs.NodeView.{node_views, children_in, tree_at}
use Rattle.node_table.specs.Placing.{with_place, IsPlacedRow, without_number}
use Rattle.table_nodes.specs.Beyond.{is_loaded}
use Rattle.table_nodes.specs.Sound.{AreSoundViews}
use Rattle.table_nodes.specs.Stubs.{unplaced, unplaced_node}
use Rattle.node_table.specs.Staging.{IsSoundRoot}
use Rattle.table_nodes.specs.declared.node.NodePlace.{NodePlace}
use Rattle.table_nodes.specs.declared.node.Root.{Root}
use Rattle.table_nodes.specs.declared.node.TableNode.{TableNode}
use Rattle.node_table.proofs.Cleaning.{ready_node}
use Rattle.node_table.proofs.DirtyLists.{dirty_given, lists_given}
use Rattle.node_table.proofs.GivenPlaces.{placed_views, placed_tree, views_sound, views_settled, root_placed, with_length, dirty_loaded}

-- one element of a list, changed
pub put_there : (nodes : List TableNode) (i : ℕ) (n : TableNode) (p : NodePlace) → slice_get nodes i ≡ Some n → slice_set nodes i (record n { place = Some p }) ≡ with_place i p nodes
put_there [] i n p h = absurd cc
put_there (m ∷ ms) zero n p h = let same : m ≡ n = cc in ap (λ (x : TableNode). record x { place = Some p } ∷ ms) (sym same)
put_there (m ∷ ms) (suc i) n p h = ap (λ (ns : List TableNode). m ∷ ns) (put_there ms i n p h)

pub put_past : (nodes : List TableNode) (i : ℕ) (p : NodePlace) → length nodes ≤ i → with_place i p nodes ≡ nodes
put_past [] i p h = refl
put_past (m ∷ ms) zero p h = absurd (omega (arith, h))
put_past (m ∷ ms) (suc i) p h = ap (λ (ns : List TableNode). m ∷ ns) (put_past ms i p (omega (arith, h)))

pub record TablePlaced (f : ℕ) (nodes : List TableNode) (number : ℕ) (p : NodePlace) : Type 0 where
  pub sound : AreSoundViews f (node_views (with_place number p nodes))
  pub settled : are_clean_below (node_views (with_place number p nodes)) ≡ true
  pub lists : dirty_lists (with_place number p nodes) ≡ map (without_number number) (dirty_lists nodes)
  pub trees : (root : Option Root) → IsPlacedRow p (children_in (slice_get (node_views nodes) number)) (tree_at nodes root) (tree_at (with_place number p nodes) root)
  pub dirty : (root : Option Root) → dirty_below (with_place number p nodes) root ≡ without_number number (dirty_below nodes root)
  pub roots : (root : Option Root) → IsSoundRoot nodes root → IsSoundRoot (with_place number p nodes) root
  pub unplaced : unplaced (with_place number p nodes) ≡ unplaced nodes

-- a place of a node that is loaded isn't looked at where those are as if dirty
one_dropped : (n : TableNode) (p : NodePlace) → is_loaded n ≡ true → unplaced_node (record n { place = Some p }) ≡ unplaced_node n
one_dropped n p loaded = rw loaded refl

place_dropped : (nodes : List TableNode) (i : ℕ) (n : TableNode) (p : NodePlace) → slice_get nodes i ≡ Some n → is_loaded n ≡ true → unplaced (with_place i p nodes) ≡ unplaced nodes
place_dropped [] i n p h loaded = absurd cc
place_dropped (m ∷ ms) zero n p h loaded =
    let same : m ≡ n = cc in
    let P : TableNode → Type 0 = λ x. is_loaded x ≡ true in
    ap (λ (x : TableNode). x ∷ unplaced ms) (one_dropped m p (subst P (sym same) loaded))
place_dropped (m ∷ ms) (suc i) n p h loaded = ap (λ (ns : List TableNode). unplaced_node m ∷ ns) (place_dropped ms i n p h loaded)

there_of : (nodes : List TableNode) (i : ℕ) → i < length nodes → (n : TableNode) × (slice_get nodes i ≡ Some n)
there_of [] i h = absurd (omega (arith, h))
there_of (m ∷ ms) zero h = (m, refl)
there_of (m ∷ ms) (suc i) h = there_of ms i (omega (arith, h))

pub table_placed : (f : ℕ) (nodes : List TableNode) (number : ℕ) (p : NodePlace) → AreSoundViews f (node_views nodes) → are_clean_below (node_views nodes) ≡ true → are_loaded_if_dirty nodes ≡ true → IsReadyNode nodes number → TablePlaced f nodes number p
table_placed f nodes number p s t l r =
    let found = there_of nodes number r.there in
    let n = found.0 in
    let ready = ready_node f nodes number n s r found.1 in
    let below = children_in (slice_get (node_views nodes) number) in
    let new = with_place number p nodes in
    let loaded = dirty_loaded nodes number n l found.1 ready.dirty in
    let h = placed_views nodes number p n found.1 ready.dirty loaded in
    record {
      sound = views_sound f p below (node_views nodes) (node_views new) h s;
      settled = views_settled p below (node_views nodes) (node_views new) r.below h t;
      lists = lists_given nodes number p n found.1 ready.dirty ready.alone;
      trees = λ root. placed_tree p below nodes new root h;
      dirty = λ root. dirty_given nodes number p n root found.1 ready.dirty ready.alone;
      roots = λ root sound. root_placed p below nodes new root (with_length number p nodes) h sound;
      unplaced = place_dropped nodes number n p found.1 loaded;
    }

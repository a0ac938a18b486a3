-- The row of a node's children, where it is that of its links.
use Rattle.std.proofs.Common.{◌≡◌, ℕ, zero, suc, true, false, List, [], ◌∷◌, refl, ap, ◌∙◌, subst}
use Rattle.std.specs.Prelude.{◌&&◌, Bool, Option, None, Some, is_none, slice_get}
use Rattle.index_media.specs.KeyedRow.{KeyedRow}
use Rattle.told_value.specs.declared.told.Told.{Told}
use Rattle.table_nodes.specs.Beyond.{are_loaded, children_by, is_loaded}
use Rattle.table_nodes.specs.NodeView.{NodeView, row_of, node_view_of}
use Rattle.table_nodes.specs.declared.node.NodePlace.{NodePlace}
use Rattle.table_nodes.specs.declared.node.TableNode.{TableNode}
use Rattle.table_nodes.specs.declared.seen.MediumSeen.{MediumSeen}

none_beyond : (o : Option (Told MediumSeen)) → is_none o ≡ true → o ≡ None
none_beyond None h = refl
none_beyond (Some told) h = absurd cc

-- a node that is loaded
pub loaded_row : (seen : List NodeView) (n : TableNode) → is_loaded n ≡ true → (node_view_of seen n).children ≡ row_of seen n.links.items
loaded_row seen n h = ap (λ (o : Option (Told MediumSeen)). children_by n.level n.place o (row_of seen n.links.items)) (none_beyond n.beyond h)

no_place : (level : ℕ) (beyond : Option (Told MediumSeen)) (linked : KeyedRow) → children_by level None beyond linked ≡ linked
no_place level None linked = refl
no_place level (Some told) linked = refl

-- a dirty node
pub dirty_row : (seen : List NodeView) (n : TableNode) → n.place ≡ None → (node_view_of seen n).children ≡ row_of seen n.links.items
dirty_row seen n h =
    ap (λ (o : Option NodePlace). children_by n.level o n.beyond (row_of seen n.links.items)) h ∙ no_place n.level n.beyond (row_of seen n.links.items)

first_holds : (a b : Bool) → (a && b) ≡ true → a ≡ true
first_holds true b h = refl
first_holds false b h = absurd cc

others_hold : (a b : Bool) → (a && b) ≡ true → b ≡ true
others_hold true b h = h
others_hold false b h = absurd cc

-- one of nodes that are loaded
pub loaded_at : (nodes : List TableNode) (i : ℕ) (n : TableNode) → are_loaded nodes ≡ true → slice_get nodes i ≡ Some n → is_loaded n ≡ true
loaded_at [] i n l h = absurd cc
loaded_at (m ∷ ms) zero n l h =
    let same : m ≡ n = cc in
    let P : TableNode → Type 0 = λ x. is_loaded x ≡ true in
    subst P same (first_holds (is_loaded m) (are_loaded ms) l)
loaded_at (m ∷ ms) (suc i) n l h = loaded_at ms i n (others_hold (is_loaded m) (are_loaded ms) l) h

-- a node of a table whose nodes are loaded
pub table_row : (seen : List NodeView) (nodes : List TableNode) (i : ℕ) (n : TableNode) → are_loaded nodes ≡ true → slice_get nodes i ≡ Some n → (node_view_of seen n).children ≡ row_of seen n.links.items
table_row seen nodes i n l h = loaded_row seen n (loaded_at nodes i n l h)

-- Three nodes, worked by hand.
use Rattle.std.proofs.Common.{◌≡◌, ℕ, List, [], ◌∷◌, refl, ap, ◌∙◌}
use Rattle.std.specs.Prelude.{Option, None, Some, is_none}
use Rattle.ubifs_base.specs.declared.key.Key.{Key}
use Rattle.index_media.specs.KeyedRow.{KeyedRow, no_more, leaf_in, node_in, all_clean}
use Rattle.index_media.specs.PlacedRow.{ended, leaf_at, node_at}
use Rattle.index_tree.specs.declared.leaf.Leaf.{Leaf}
use Rattle.table_nodes.specs.BeyondLaws.{loaded_row}
use Rattle.node_table.specs.Dirty.{dirty_lists, dirty_node, dirty_among}
use Rattle.table_nodes.specs.NodeView.{row_of, stretch_at, tree_at, node_view_of}
use Rattle.node_table.specs.Placing.{with_place}
use Rattle.table_nodes.specs.declared.link.Link.{Link}
use Rattle.table_nodes.specs.declared.link.Link.TheVariants.{ToLeaf, ToNode}
use Rattle.table_nodes.specs.declared.node.NodePlace.{NodePlace}
use Rattle.table_nodes.specs.declared.node.TableNode.{TableNode}
use Rattle.index_cache.specs.Worked.{AreThreeNodes, placed_branch}

-- the lists of three nodes of these places and links
abbrev lists_of : Option NodePlace → Option NodePlace → Option NodePlace → List Link → List Link → List Link → List (List ℕ)
lists_of a b c xs ys zs =
    let one = dirty_node a 0 (dirty_among [] xs) ∷ [] in
    let two = dirty_node a 0 (dirty_among [] xs) ∷ dirty_node b 1 (dirty_among one ys) ∷ [] in
    dirty_node a 0 (dirty_among [] xs) ∷ dirty_node b 1 (dirty_among one ys) ∷ dirty_node c 2 (dirty_among two zs) ∷ []

same_lists : (a b c a' b' c' : Option NodePlace) (xs ys zs xs' ys' zs' : List Link) → a ≡ a' → b ≡ b' → c ≡ c' → xs ≡ xs' → ys ≡ ys' → zs ≡ zs'
    → lists_of a b c xs ys zs ≡ lists_of a' b' c' xs' ys' zs'
same_lists a b c a' b' c' xs ys zs xs' ys' zs' e f g h i j =
    ap (λ o. lists_of o b c xs ys zs) e ∙ ap (λ o. lists_of a' o c xs ys zs) f ∙ ap (λ o. lists_of a' b' o xs ys zs) g
    ∙ ap (λ l. lists_of a' b' c' l ys zs) h ∙ ap (λ l. lists_of a' b' c' xs' l zs) i ∙ ap (λ l. lists_of a' b' c' xs' ys' l) j

pub first_dirty_lists : (x y : Leaf) (a b : Key) (left right top : TableNode) → AreThreeNodes x y a b left right top
    → dirty_lists (left ∷ right ∷ top ∷ []) ≡ (0 ∷ []) ∷ (1 ∷ []) ∷ (0 ∷ 1 ∷ 2 ∷ []) ∷ []
first_dirty_lists x y a b left right top h =
    same_lists left.place right.place top.place None None None left.links.items right.links.items top.links.items (ToLeaf x ∷ []) (ToLeaf y ∷ []) (ToNode a 0 ∷ ToNode b 1 ∷ [])
    h.left_dirty h.right_dirty h.top_dirty h.left_leaf h.right_leaf h.top_nodes

pub then_dirty_lists : (x y : Leaf) (a b : Key) (left right top : TableNode) (p : NodePlace) → AreThreeNodes x y a b left right top
    → dirty_lists (with_place 0 p (left ∷ right ∷ top ∷ [])) ≡ [] ∷ (1 ∷ []) ∷ (1 ∷ 2 ∷ []) ∷ []
then_dirty_lists x y a b left right top p h =
    same_lists (Some p) right.place top.place (Some p) None None left.links.items right.links.items top.links.items (ToLeaf x ∷ []) (ToLeaf y ∷ []) (ToNode a 0 ∷ ToNode b 1 ∷ [])
    refl h.right_dirty h.top_dirty h.left_leaf h.right_leaf h.top_nodes

-- the tree of a third node over two others
pub last_tree : (x y : Leaf) (a b key : Key) (left right top : TableNode) (p q r : NodePlace) → AreThreeNodes x y a b left right top
    → tree_at (with_place 2 r (with_place 1 q (with_place 0 p (left ∷ right ∷ top ∷ [])))) (Some (record { key = key; number = 2 }))
    ≡ all_clean (node_at (placed_branch key r) (node_at (placed_branch a p) (leaf_at x ended) (node_at (placed_branch b q) (leaf_at y ended) ended)) ended)
last_tree x y a b key left right top p q r h =
    let first : TableNode = record left { place = Some p } in
    let second : TableNode = record right { place = Some q } in
    let last : TableNode = record top { place = Some r } in
    let v = node_view_of [] first in
    let w = node_view_of (v ∷ []) second in
    let below = loaded_row (v ∷ w ∷ []) last (ap (λ o. is_none o) h.top_loaded) in
    let one = loaded_row [] first (ap (λ o. is_none o) h.left_loaded) ∙ ap (λ (l : List Link). row_of [] l) h.left_leaf in
    let other = loaded_row (v ∷ []) second (ap (λ o. is_none o) h.right_loaded) ∙ ap (λ (l : List Link). row_of (v ∷ []) l) h.right_leaf in
    ap (λ (c : KeyedRow). node_in key (stretch_at (Some r)) c no_more) (below ∙ ap (λ (l : List Link). row_of (v ∷ w ∷ []) l) h.top_nodes)
    ∙ ap (λ (c : KeyedRow). node_in key (stretch_at (Some r)) (node_in a (stretch_at (Some p)) c (node_in b (stretch_at (Some q)) w.children no_more)) no_more) one
    ∙ ap (λ (c : KeyedRow). node_in key (stretch_at (Some r)) (node_in a (stretch_at (Some p)) (leaf_in x no_more) (node_in b (stretch_at (Some q)) c no_more)) no_more) other

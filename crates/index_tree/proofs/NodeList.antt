-- The steps of a list of nodes.
use Rattle.std.proofs.lemmas.Bool.Decides.{nat_tests}
use Rattle.std.proofs.Common.{◌≡◌, ℕ, ◌+◌, ◌++◌, ◌-◌, ◌<◌, List, [], ◌∷◌, length, false, refl, ap, ◌∙◌, arith, add-one, append_assoc, append-nil}
use Rattle.std.specs.Prelude.{◌==◌}
use Rattle.std.proofs.lemmas.List.{map-append}
use Rattle.index_tree.proofs.GrowthLaws.{node_fits}
use Rattle.index_tree.specs.declared.leaf.Leaf.{Leaf}
use Rattle.index_tree.specs.declared.node.Node.{Node}
use Rattle.index_tree.specs.declared.node.Node.TheViews.{out-Node}
use Rattle.index_tree.specs.Listing.{height, row_leaves, level_nodes, levels_below}
use Rattle.index_tree.specs.Shape.{Shape, done, node}
use Rattle.index_tree.specs.Tree.{below, row, leaves_before}
use Rattle.index_tree.proofs.TreeLaws.{below_is, no_items}

pub ruleset listing = (nat_tests, node_fits, append_assoc, map-append)

pub levels-more : (n : ℕ) (s : Shape) → levels_below (n + 1) s ≡ levels_below n s ++ level_nodes n (height s) s
levels-more n s = rw add-one refl

height-leaves : (xs : List Leaf) (s : Shape) → 0 < length xs → height (leaves_before xs s) ≡ 0
height-leaves [] s h = absurd (omega arith)
height-leaves (x ∷ xs) s h = refl

-- a node with leaves is on the lowest level
pub lowest-height : (n : Node) → 0 < length (out-Node n).leaves.items → height (below n) ≡ 0
lowest-height n h = ap height (below_is n) ∙ height-leaves (out-Node n).leaves.items (row (out-Node n).nodes.items) h

-- and one without has its nodes alone
pub only_nodes : (n : Node) → length (out-Node n).leaves.items ≡ 0 → below n ≡ row (out-Node n).nodes.items
only_nodes n h = below_is n ∙ ap (λ v. leaves_before v (row (out-Node n).nodes.items)) (no_items (out-Node n).leaves.items h)

leaves-of_row : (ns : List Node) → row_leaves (row ns) ≡ []
leaves-of_row [] = refl
leaves-of_row (n ∷ ns) = leaves-of_row ns

own-leaves : (xs : List Leaf) (ns : List Node) → row_leaves (leaves_before xs (row ns)) ≡ xs
own-leaves [] ns = leaves-of_row ns
own-leaves (x ∷ xs) ns = ap (λ v. x ∷ v) (own-leaves xs ns)

pub below-leaves : (n : Node) → row_leaves (below n) ≡ (out-Node n).leaves.items
below-leaves n = ap row_leaves (below_is n) ∙ own-leaves (out-Node n).leaves.items (out-Node n).nodes.items

-- a node on another level lists what is below it
pub level_past : (level high : ℕ) (c : Shape) → (high - 1 == level) ≡ false → level_nodes level high (node c done) ≡ level_nodes level (high - 1) c
level_past level high c e = rw e (append-nil (level_nodes level (high - 1) c))

none-below : (level high : ℕ) (xs : List Leaf) (s : Shape) → 0 < length xs → level_nodes level high (leaves_before xs s) ≡ []
none-below level high [] s h = absurd (omega arith)
none-below level high (x ∷ xs) s h = refl

pub lowest-level : (level high : ℕ) (n : Node) → 0 < length (out-Node n).leaves.items → level_nodes level high (below n) ≡ []
lowest-level level high n h = ap (λ v. level_nodes level high v) (below_is n) ∙ none-below level high (out-Node n).leaves.items (row (out-Node n).nodes.items) h

pub ruleset whole_list = (nat_tests, levels-more)

-- Where a leaf goes into the children of a node, and what is ready for a split.
use Rattle.std.specs.Prelude.{◌≡◌, ℕ, ◌+◌, ◌≤◌, nat_le, if◌then◌else◌, List, [], ◌∷◌, vec_capacity}
use Rattle.index_tree.specs.declared.leaf.Leaf.{Leaf}
use Rattle.index_tree.specs.declared.node.Node.{Node}
use Rattle.index_tree.specs.declared.node.Node.TheViews.{out-Node}
use Rattle.index_tree.specs.Order.{leaf_rank}
use Rattle.index_tree.specs.Shape.{Shape, done, leaf, node, count, begins_within}

-- how many leaves stand before the first one of a greater rank
abbrev pub leaf_place : ℕ → List Leaf → ℕ
leaf_place at [] = 0
leaf_place at (x ∷ xs) = if nat_le (leaf_rank x) at then leaf_place at xs + 1 else 0

-- how many nodes stand before the one that a leaf of this rank goes into
abbrev pub node_place : ℕ → Shape → ℕ
node_place at done = 0
node_place at (leaf x rest) = 0
node_place at (node children rest) = if begins_within at rest then node_place at rest + 1 else 0

-- a row and then another
abbrev pub joined_rows : Shape → Shape → Shape
joined_rows done t = t
joined_rows (leaf x rest) t = leaf x (joined_rows rest t)
joined_rows (node c rest) t = node c (joined_rows rest t)

-- an empty node with room for so many leaves and nodes
pub record IsSpare (leaves nodes : ℕ) (one : Node) : Type 0 where
  pub no_leaves : (out-Node one).leaves.items ≡ []
  pub no_nodes : (out-Node one).nodes.items ≡ []
  pub leaf_room : leaves ≤ vec_capacity (out-Node one).leaves
  pub node_room : nodes ≤ vec_capacity (out-Node one).nodes

-- 1 for a node that splits, and else 0
abbrev pub splits : ℕ → Shape → ℕ
splits f c = if nat_le (f + 1) (count c) then 1 else 0

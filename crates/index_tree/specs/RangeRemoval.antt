-- How a shape changes when the leaves of a range of keys go.
use Rattle.std.specs.Prelude.{ℕ, nat_le, Bool, not, false, if◌then◌else◌, List, filter}
use Rattle.index_tree.specs.declared.leaf.Leaf.{Leaf}
use Rattle.index_tree.specs.Order.{leaf_rank}
use Rattle.index_tree.specs.Shape.{Shape, done, leaf, node}
use Rattle.index_tree.specs.Removal.{tidied, collapsed}

-- whether a leaf's key lies in a range, both ends included
abbrev pub in_range : ℕ → ℕ → Leaf → Bool
in_range from to x = if nat_le from (leaf_rank x) then nat_le (leaf_rank x) to else false

-- a row without the leaves of a range, and without the nodes that this empties
abbrev pub pruned : ℕ → ℕ → Shape → Shape
pruned from to done = done
pruned from to (leaf x rest) = if in_range from to x then pruned from to rest else leaf x (pruned from to rest)
pruned from to (node children rest) = tidied (node (pruned from to children) (pruned from to rest))

-- the leaves of the range
abbrev pub within_range : ℕ → ℕ → List Leaf → List Leaf
within_range from to xs = filter (λ x. in_range from to x) xs

-- the other leaves
abbrev pub outside_range : ℕ → ℕ → List Leaf → List Leaf
outside_range from to xs = filter (λ x. not (in_range from to x)) xs

-- the shape without the leaves of the range
unfoldable pub without_range : ℕ → ℕ → Shape → Shape
without_range from to shape = collapsed (pruned from to shape)

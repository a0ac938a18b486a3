-- Rows from which empty nodes go, and the place of a leaf.
use Rattle.std.specs.Prelude.{ℕ, ◌+◌, ◌==◌, Bool, not, if◌then◌else◌, List, [], ◌∷◌}
use Rattle.index_tree.specs.declared.leaf.Leaf.{Leaf}
use Rattle.index_tree.specs.declared.node.Node.{Node}
use Rattle.index_tree.specs.Removal.{same_leaf, tidied}
use Rattle.index_tree.specs.Shape.{Shape, done, leaf, node, count}
use Rattle.index_tree.specs.Tree.{below}

-- a row without its empty nodes
abbrev pub swept : Shape → Shape
swept done = done
swept (leaf x rest) = leaf x (swept rest)
swept (node children rest) = tidied (node children (swept rest))

-- whether a node has a child
abbrev pub has_child : Node → Bool
has_child one = not (count (below one) == 0)

-- how many leaves stand before the first one that is the same
abbrev pub leaf_index : Leaf → List Leaf → ℕ
leaf_index sought [] = 0
leaf_index sought (x ∷ xs) = if same_leaf x sought then 0 else leaf_index sought xs + 1

-- The nodes of a shape in a list: each level from left to right, the lowest first.
use Rattle.std.specs.Prelude.{ℕ, ◌+◌, ◌-◌, ◌==◌, if◌then◌else◌, List, [], ◌∷◌, ◌++◌, zero, suc}
use Rattle.index_tree.specs.declared.index_node.IndexNode.{IndexNode}
use Rattle.index_tree.specs.declared.leaf.Leaf.{Leaf}
use Rattle.index_tree.specs.Shape.{Shape, done, leaf, node, count}

-- a node as it is listed: its level, how many children it has, and its leaves where it is on the lowest level
pub record ListedNode : Type 0 where
  pub level : ℕ
  pub count : ℕ
  pub leaves : List Leaf

-- the node without its buffer
abbrev pub listed_node : IndexNode → ListedNode
listed_node one = record { level = one.level; count = one.count; leaves = one.leaves.items }

-- the leaves that are siblings in a row
abbrev pub row_leaves : Shape → List Leaf
row_leaves done = []
row_leaves (leaf x rest) = x ∷ row_leaves rest
row_leaves (node children rest) = row_leaves rest

-- how many levels of nodes a row has, by its first nodes
abbrev pub height : Shape → ℕ
height done = 0
height (leaf x rest) = 0
height (node children rest) = height children + 1

-- the nodes of a level, in a row that has so many levels
abbrev pub level_nodes : ℕ → ℕ → Shape → List ListedNode
level_nodes level high done = []
level_nodes level high (leaf x rest) = []
level_nodes level high (node children rest) =
    (if high - 1 == level then (record { level = level; count = count children; leaves = row_leaves children }) ∷ []
    else level_nodes level (high - 1) children)
    ++ level_nodes level high rest

-- the nodes of the n lowest levels, one level after another
abbrev pub levels_below : ℕ → Shape → List ListedNode
levels_below zero shape = []
levels_below (suc n) shape = levels_below n shape ++ level_nodes n (height shape) shape

-- all nodes of a shape, children before their parent and the root last
abbrev pub listed : Shape → List ListedNode
listed shape = levels_below (height shape) shape

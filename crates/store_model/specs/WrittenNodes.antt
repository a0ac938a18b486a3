-- The nodes of an index in the order in which a commit writes them: each behind those below it, from left to right.
use Rattle.std.specs.Prelude.{ℕ, ◌-◌, List, [], ◌∷◌, ◌++◌}
use Rattle.index_tree.specs.Listing.{ListedNode, height, row_leaves}
use Rattle.index_tree.specs.Shape.{Shape, done, leaf, node, count}

-- the nodes of a row that has so many levels
abbrev pub row_nodes : ℕ → Shape → List ListedNode
row_nodes high done = []
row_nodes high (leaf x rest) = row_nodes high rest
row_nodes high (node children rest) =
    row_nodes (high - 1) children ++ (record { level = high - 1; count = count children; leaves = row_leaves children }) ∷ row_nodes high rest

-- the nodes of a shape
abbrev pub written_nodes : Shape → List ListedNode
written_nodes shape = row_nodes (height shape) shape

-- what is below each of them
abbrev pub rows_of : Shape → List Shape
rows_of done = []
rows_of (leaf x rest) = rows_of rest
rows_of (node children rest) = rows_of children ++ children ∷ rows_of rest

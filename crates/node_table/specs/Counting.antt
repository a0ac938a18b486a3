-- The numbers of the tree below a node.
use Rattle.std.specs.Prelude.{◌≡◌, ℕ}
use Rattle.index_tree.specs.Shape.{Shape, node, done, node_count, shape_weight}
use Rattle.index_media.specs.KeyedRow.{KeyedRow, bare}
use Rattle.node_table.specs.declared.counts.TreeCounts.{TreeCounts}

-- the numbers of the tree of a node with these children: its nodes, and its weight
abbrev pub counts_of : ℕ → KeyedRow → TreeCounts
counts_of fanout children = record {
  nodes = node_count (node (bare children) done);
  weight = shape_weight fanout (node (bare children) done);
}

-- a shape has these numbers: so many nodes, and this weight
abbrev pub AreCountsOf : ℕ → Shape → TreeCounts → Type 0
AreCountsOf fanout shape counts = (counts.nodes ≡ node_count shape) × (counts.weight ≡ shape_weight fanout shape)

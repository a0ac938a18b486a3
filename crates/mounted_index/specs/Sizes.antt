-- What an index takes.
use Rattle.std.specs.Prelude.{◌≡◌, ℕ}
use Rattle.index_tree.specs.Shape.{Shape, node_count, shape_weight}
use Rattle.mounted_index.specs.declared.counts.IndexSize.{IndexSize}

-- a shape has so many nodes, and weighs so much
abbrev pub IsSizeOf : ℕ → Shape → IndexSize → Type 0
IsSizeOf fanout shape size = (size.nodes ≡ node_count shape) × (size.weight ≡ shape_weight fanout shape)

-- Shapes in which all leaves stand at one depth, and what a shape of an index is.
use Rattle.std.specs.Prelude.{ℕ, ◌-◌, ◌==◌, nat_lt, Bool, true, ◌&&◌}
use Rattle.index_tree.specs.Listing.{height}
use Rattle.index_tree.specs.Shape.{Shape, done, leaf, node}

-- whether each leaf of a row has so many levels of nodes above it, the row's own included
abbrev pub levelled : ℕ → Shape → Bool
levelled high done = true
levelled high (leaf x rest) = high == 0 && levelled high rest
levelled high (node children rest) = nat_lt 0 high && levelled (high - 1) children && levelled high rest

-- whether all leaves of a shape stand at one depth
abbrev pub is_levelled : Shape → Bool
is_levelled shape = levelled (height shape) shape

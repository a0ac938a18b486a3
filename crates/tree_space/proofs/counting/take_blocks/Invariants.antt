use Rattle.std.specs.Prelude.{◌==◌, filter, map}
use Rattle.ubifs_base.specs.RawOf.{raw_of}
use Rattle.image_maker.specs.Leaves.{block_leaf}
use Rattle.tree_space.proofs.CountedLeaves.{IsCounting}
use Rattle.tree_space.proofs.counting.take_blocks.Given as goal

abbrev pub invariant-counting : goal.invariant-counting
invariant-counting l = IsCounting (raw_of l.geometry) (map block_leaf (filter (λ stored. stored.0.0 == l.ino) l.tree.blocks)) (map block_leaf l.rest) l.fn.tally l.tally

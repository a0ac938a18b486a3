use Rattle.std.specs.Prelude.{length, map}
use Rattle.ubifs_base.specs.RawOf.{raw_of}
use Rattle.image_maker.specs.Leaves.{entry_leaf}
use Rattle.tree_space.proofs.CountedLeaves.{IsCounting}
use Rattle.tree_space.proofs.counting.take_entries.Given as goal

abbrev pub invariant-counting : goal.invariant-counting
invariant-counting l = IsCounting (raw_of l.geometry) (map entry_leaf l.rows) (map entry_leaf l.left) l.fn.tally l.tally

abbrev pub decreases-counting : goal.decreases-counting
decreases-counting l = length l.left

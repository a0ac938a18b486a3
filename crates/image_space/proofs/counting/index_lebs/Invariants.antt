use Rattle.std.proofs.Common.{length}
use Rattle.image_space.specs.Uses.{is_indexed_in}
use Rattle.image_space.proofs.Counted.{CountedSoFar}
use Rattle.image_space.proofs.counting.index_lebs.Given as goal

-- those so far and those of the rest are all
abbrev pub invariant-loop-at : goal.invariant-loop-at
invariant-loop-at l = CountedSoFar (is_indexed_in l.first l.uses) l.first (length l.uses) l.at l.count

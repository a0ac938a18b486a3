use Rattle.std.proofs.Common.{length}
use Rattle.image_space.specs.Uses.{leaf_seen}
use Rattle.image_space.proofs.Marked.{MarkedSoFar}
use Rattle.image_space.proofs.marking.mark_leaves.Given as goal

-- what is left would make of the marks so far those of all
abbrev pub invariant-marking : goal.invariant-marking
invariant-marking l = MarkedSoFar leaf_seen l.first l.fn.uses.items l.uses.items l.left l.fn.leaves

abbrev pub decreases-marking : goal.decreases-marking
decreases-marking l = length l.left

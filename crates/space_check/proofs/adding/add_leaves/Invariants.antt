use Rattle.std.proofs.Common.{length, map}
use Rattle.index_media.specs.PlacedRow.{branch_to}
use Rattle.space_check.proofs.Added.{AddedSoFar}
use Rattle.space_check.proofs.adding.add_leaves.Given as goal

-- what is left would make of the sums so far those of all
abbrev pub invariant-adding : goal.invariant-adding
invariant-adding l = AddedSoFar l.first l.fn.sums l.sums (map branch_to l.left) (map branch_to l.fn.leaves)

abbrev pub decreases-adding : goal.decreases-adding
decreases-adding l = length l.left

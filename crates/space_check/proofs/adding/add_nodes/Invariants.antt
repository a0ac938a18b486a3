use Rattle.std.proofs.Common.{length}
use Rattle.space_check.proofs.Added.{AddedSoFar}
use Rattle.space_check.proofs.adding.add_nodes.Given as goal

-- what is left would make of the sums so far those of all
abbrev pub invariant-adding : goal.invariant-adding
invariant-adding l = AddedSoFar l.first l.fn.sums l.sums l.left l.fn.nodes

abbrev pub decreases-adding : goal.decreases-adding
decreases-adding l = length l.left

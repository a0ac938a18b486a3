use Rattle.plain_backing.proofs.SoFar.{PreparedSoFar}
use Rattle.plain_backing.proofs.rounds.prepare.Given as goal

abbrev pub invariant-loop-left : goal.invariant-loop-left
invariant-loop-left l = PreparedSoFar l.fn.cells l.cells l.changes l.copies.items l.left l.total

abbrev pub decreases-loop-left : goal.decreases-loop-left
decreases-loop-left l = l.left

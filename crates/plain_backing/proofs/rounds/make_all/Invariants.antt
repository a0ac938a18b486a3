use Rattle.plain_backing.proofs.SoFar.{MadeSoFar}
use Rattle.plain_backing.proofs.rounds.make_all.Given as goal

abbrev pub invariant-loop-change : goal.invariant-loop-change
invariant-loop-change l = MadeSoFar l.fn.cells l.cells l.fn.copies.items l.copies.items

abbrev pub decreases-loop-change : goal.decreases-loop-change
decreases-loop-change l = goal.left-loop-change l

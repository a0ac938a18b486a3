use Rattle.shown_leaves.proofs.SameLeaves.{none_apart}
use Rattle.shown_leaves.proofs.twice.are_apart.Goals as goal

pub returns : goal.returns
returns c = λ yes. c.going.invariant (none_apart c.going.left.now c.in_default.ensures.cases)

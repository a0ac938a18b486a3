use Rattle.leaf_recovery.proofs.GoingUp.{nothing_twice, none_left}
use Rattle.leaf_recovery.proofs.repeated.keys_go_up.Goals as goal

pub returns : goal.returns
returns c = λ yes. nothing_twice c.args.found.now (c.going.invariant (none_left c.going.left.now c.in_default.ensures.cases))

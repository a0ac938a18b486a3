use Rattle.leaf_check.proofs.Firsts.{value_none}
use Rattle.leaf_check.proofs.first.breach_at.Goals as goal

pub returns-in_err-value-clause-none : goal.returns-in_err-value-clause-none
returns-in_err-value-clause-none c = absurd (value_none c.args.standing.now c.args.here.now c.args.wrong.now c.first_value.result c.in_err-value.was c.requires c.first_value.ensures)

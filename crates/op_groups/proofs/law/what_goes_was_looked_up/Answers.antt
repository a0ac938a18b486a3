use Rattle.op_groups.proofs.Gone.{gone_making, gone_linking, gone_removing, gone_moving, gone_moving_over}
use Rattle.op_groups.proofs.law.what_goes_was_looked_up.Goals as goal

pub returns-clause-making : goal.returns-clause-making
returns-clause-making c = gone_making

pub returns-clause-linking : goal.returns-clause-linking
returns-clause-linking c = gone_linking

pub returns-clause-removing : goal.returns-clause-removing
returns-clause-removing c = gone_removing

pub returns-clause-moving : goal.returns-clause-moving
returns-clause-moving c = gone_moving

pub returns-clause-moving_over : goal.returns-clause-moving_over
returns-clause-moving_over c = gone_moving_over

use Rattle.op_groups.proofs.Limits.{making_fits, linking_fits, removing_fits, moving_fits, moving_over_fits, truncating_fits}
use Rattle.op_groups.proofs.law.groups_stay_within_the_limit.Goals as goal

pub returns-clause-making : goal.returns-clause-making
returns-clause-making c = making_fits

pub returns-clause-linking : goal.returns-clause-linking
returns-clause-linking c = linking_fits

pub returns-clause-removing : goal.returns-clause-removing
returns-clause-removing c = removing_fits

pub returns-clause-moving : goal.returns-clause-moving
returns-clause-moving c = moving_fits

pub returns-clause-moving_over : goal.returns-clause-moving_over
returns-clause-moving_over c = moving_over_fits

pub returns-clause-truncating : goal.returns-clause-truncating
returns-clause-truncating c = truncating_fits

use Rattle.std.proofs.Common.{refl}
use Rattle.store_model.proofs.GrantCounts.{write_covered}
use Rattle.store_model.proofs.SettledSteps.{write_settled}
use Rattle.store_model.proofs.grants.a_commits_writing_changes_no_number.Goals as goal

pub returns-clause-covered : goal.returns-clause-covered
returns-clause-covered c = λ m. write_covered c.what_takes_no_more_keeps_what_was_granted.ensures.room m m.next

pub returns-clause-settled : goal.returns-clause-settled
returns-clause-settled c = λ m s. write_settled m m.next refl s

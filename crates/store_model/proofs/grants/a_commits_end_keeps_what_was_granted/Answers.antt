use Rattle.std.proofs.Common.{refl}
use Rattle.store_model.proofs.EndNumbers.{end_covered, end_settled}
use Rattle.store_model.proofs.grants.a_commits_end_keeps_what_was_granted.Goals as goal

pub returns-clause-covered : goal.returns-clause-covered
returns-clause-covered c = λ m can s. end_covered c.a_commit_keeps_what_was_granted.ensures.room m m.next refl can s

pub returns-clause-settled : goal.returns-clause-settled
returns-clause-settled c = λ m can s. end_settled m m.next refl can s

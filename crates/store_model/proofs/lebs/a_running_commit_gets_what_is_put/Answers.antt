use Rattle.store_model.proofs.Since.{drop_since, open_since, put_since, sync_since}
use Rattle.store_model.proofs.lebs.a_running_commit_gets_what_is_put.Goals as goal

pub returns-clause-put : goal.returns-clause-put
returns-clause-put c = λ m p can a s. put_since m p can.parts a s

pub returns-clause-open : goal.returns-clause-open
returns-clause-open c = open_since

pub returns-clause-sync : goal.returns-clause-sync
returns-clause-sync c = sync_since

pub returns-clause-dropped : goal.returns-clause-dropped
returns-clause-dropped c = drop_since

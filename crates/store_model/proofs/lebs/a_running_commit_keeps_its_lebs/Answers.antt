use Rattle.store_model.proofs.LebTaking.{drop_taking, open_taking, put_taking, sync_taking}
use Rattle.store_model.proofs.lebs.a_running_commit_keeps_its_lebs.Goals as goal

pub returns-clause-put : goal.returns-clause-put
returns-clause-put c = put_taking

pub returns-clause-open : goal.returns-clause-open
returns-clause-open c = λ m head lnum can a t. open_taking m head lnum can.empty a t

pub returns-clause-sync : goal.returns-clause-sync
returns-clause-sync c = sync_taking

pub returns-clause-dropped : goal.returns-clause-dropped
returns-clause-dropped c = drop_taking

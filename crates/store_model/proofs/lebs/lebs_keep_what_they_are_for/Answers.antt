use Rattle.store_model.proofs.LebDrops.{drop_apart}
use Rattle.store_model.proofs.LebFrees.{sync_apart}
use Rattle.store_model.proofs.LebOpens.{open_apart}
use Rattle.store_model.proofs.LebPuts.{put_apart}
use Rattle.store_model.proofs.lebs.lebs_keep_what_they_are_for.Goals as goal

pub returns-clause-put : goal.returns-clause-put
returns-clause-put c = λ m p can a. put_apart p m can.parts a

pub returns-clause-open : goal.returns-clause-open
returns-clause-open c = λ m head lnum can a. open_apart m head lnum can.empty a

pub returns-clause-sync : goal.returns-clause-sync
returns-clause-sync c = λ m a. sync_apart m a

pub returns-clause-dropped : goal.returns-clause-dropped
returns-clause-dropped c = λ m ino index can a. drop_apart m ino index a

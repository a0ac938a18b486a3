use Rattle.store_model.proofs.WorkedHalf.{half_is_store}
use Rattle.store_model.proofs.WorkedOffered.{offering_is_store}
use Rattle.store_model.proofs.WorkedStore.{file_is_store, root_is_store}
use Rattle.store_model.proofs.worked.a_worked_store_is_one.Goals as goal

pub returns-clause-root : goal.returns-clause-root
returns-clause-root c = root_is_store

pub returns-clause-file : goal.returns-clause-file
returns-clause-file c = file_is_store

pub returns-clause-half : goal.returns-clause-half
returns-clause-half c = half_is_store

pub returns-clause-offered : goal.returns-clause-offered
returns-clause-offered c = offering_is_store

use Rattle.store_model.proofs.LebCounts.{drop_index, open_empty, open_index, put_empty, sync_empty, sync_index}
use Rattle.store_model.proofs.lebs.lebs_are_counted.Goals as goal

pub returns-clause-put : goal.returns-clause-put
returns-clause-put c = put_empty

pub returns-clause-opened : goal.returns-clause-opened
returns-clause-opened c = λ m head lnum can a. open_empty m head lnum can.empty a

pub returns-clause-opened_index : goal.returns-clause-opened_index
returns-clause-opened_index c = λ m head lnum can a. open_index m head lnum can.empty a

pub returns-clause-synced : goal.returns-clause-synced
returns-clause-synced c = sync_empty

pub returns-clause-synced_index : goal.returns-clause-synced_index
returns-clause-synced_index c = sync_index

pub returns-clause-dropped_index : goal.returns-clause-dropped_index
returns-clause-dropped_index c = drop_index

use Rattle.std.proofs.Common.{refl}
use Rattle.store_model.proofs.SettledSteps.{begin_settled, drop_settled, free_settled, move_settled, sync_settled}
use Rattle.store_model.proofs.grants.a_store_stays_settled.Goals as goal

pub returns-clause-synced : goal.returns-clause-synced
returns-clause-synced c = sync_settled

pub returns-clause-dropped : goal.returns-clause-dropped
returns-clause-dropped c = drop_settled

pub returns-clause-begun : goal.returns-clause-begun
returns-clause-begun c = λ m victim can s. begin_settled m victim can.idle s

pub returns-clause-moved : goal.returns-clause-moved
returns-clause-moved c = move_settled

pub returns-clause-freed : goal.returns-clause-freed
returns-clause-freed c = λ m a s. free_settled m m.moving refl a s

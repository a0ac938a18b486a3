use Rattle.std.proofs.Common.{refl}
use Rattle.store_model.proofs.BackingCalls.{drop_is}
use Rattle.store_model.proofs.backing.a_drop_is_a_backings.Goals as goal

pub returns-clause-dropped : goal.returns-clause-dropped
returns-clause-dropped c = drop_is

pub returns-clause-journal : goal.returns-clause-journal
returns-clause-journal c = λ m ino index. refl

use Rattle.std.proofs.Common.{◌≡◌, Option, Some, None, refl}
use Rattle.store_model.specs.Events.{free_victim}
use Rattle.store_model.specs.Lebs.{lent}
use Rattle.store_model.specs.Store.{Moving, Store}
use Rattle.store_model.proofs.law.a_lent_leb_comes_back.Goals as goal

pub returns-clause-begin : goal.returns-clause-begin
returns-clause-begin c = λ m victim can. can.idle

pub returns-clause-start : goal.returns-clause-start
returns-clause-start c = λ m taken can. can.unlent

pub returns-clause-freed : goal.returns-clause-freed
returns-clause-freed c = λ m. by m m.moving refl
  where
    by : (m : Store) (moving : Option Moving) → m.moving ≡ moving → lent (free_victim m moving).moving ≡ 0
    by m None same = rw same refl
    by m (Some moving) same = refl

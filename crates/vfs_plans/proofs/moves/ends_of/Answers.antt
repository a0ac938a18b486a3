use Rattle.vfs_plans.proofs.Walking.{looks_on}
use Rattle.vfs_plans.proofs.moves.ends_of.Goals as goal

pub returns-in_err-place-clause-looks : goal.returns-in_err-place-clause-looks
returns-in_err-place-clause-looks g c = looks_on c.walk.ensures.looks c.placed.ensures.looks

pub returns-then-under-clause-looks : goal.returns-then-under-clause-looks
returns-then-under-clause-looks g c = looks_on c.walk.ensures.looks c.placed.ensures.looks

pub returns-clause-looks : goal.returns-clause-looks
returns-clause-looks g c = looks_on c.walk.ensures.looks c.placed.ensures.looks

use Rattle.vfs_plans.proofs.Walking.{looks_on}
use Rattle.vfs_plans.proofs.moves.moved_free.Goals as goal

pub returns-in_err-group-clause-looks : goal.returns-in_err-group-clause-looks
returns-in_err-group-clause-looks g c = looks_on c.comes_linked_out.ensures.looks c.move_to.ensures.looks

pub returns-clause-looks : goal.returns-clause-looks
returns-clause-looks g c = looks_on c.comes_linked_out.ensures.looks c.move_to.ensures.looks

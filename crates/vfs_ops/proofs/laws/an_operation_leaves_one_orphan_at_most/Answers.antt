use Rattle.vfs_ops.proofs.Fewer.{done_leaves, one_left}
use Rattle.vfs_ops.proofs.laws.an_operation_leaves_one_orphan_at_most.Goals as goal

pub returns-clause-one : goal.returns-clause-one
returns-clause-one c = one_left

pub returns-clause-exact : goal.returns-clause-exact
returns-clause-exact c files after caller now op reply sound plain done = (done_leaves files after caller now op reply sound plain done).1

use Rattle.vfs_ops.proofs.States.{both}
use Rattle.vfs_ops.proofs.truncations.measured.Goals as goal

pub returns-in_err-size-in-Some-clause-looks : goal.returns-in_err-size-in-Some-clause-looks
returns-in_err-size-in-Some-clause-looks g c = both c.inode.ensures.looks c.size_there.ensures.looks

pub returns-in_ok-size-in-Some-clause-looks : goal.returns-in_ok-size-in-Some-clause-looks
returns-in_ok-size-in-Some-clause-looks g c = both c.inode.ensures.looks c.size_there.ensures.looks

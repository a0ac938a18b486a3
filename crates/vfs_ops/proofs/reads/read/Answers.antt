use Rattle.vfs_ops.proofs.States.{both}
use Rattle.vfs_ops.proofs.reads.read.Goals as goal

pub returns-in_err-bytes-in-Some-2-clause-looks : goal.returns-in_err-bytes-in-Some-2-clause-looks
returns-in_err-bytes-in-Some-2-clause-looks g c = both c.inode.ensures.looks c.bytes_there.ensures.looks

pub returns-in_ok-bytes-in-Some-2-clause-looks : goal.returns-in_ok-bytes-in-Some-2-clause-looks
returns-in_ok-bytes-in-Some-2-clause-looks g c = both c.inode.ensures.looks c.bytes_there.ensures.looks

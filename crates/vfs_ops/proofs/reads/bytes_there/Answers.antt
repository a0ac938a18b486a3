use Rattle.vfs_ops.proofs.States.{both}
use Rattle.vfs_ops.proofs.reads.bytes_there.Goals as goal

pub returns-clause-looks : goal.returns-clause-looks
returns-clause-looks g c = both c.size_there.ensures.looks (record { reads = c.bytes.ensures.reads; goes = c.bytes.ensures.goes; sure = c.bytes.ensures.sure })

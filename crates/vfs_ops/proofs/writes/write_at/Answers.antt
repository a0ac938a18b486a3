use Rattle.vfs_ops.proofs.States.{both}
use Rattle.vfs_ops.proofs.writes.write_at.Goals as goal

pub returns-in_err-write-clause-looks : goal.returns-in_err-write-clause-looks
returns-in_err-write-clause-looks g c =
    both (record { reads = c.size.ensures.reads; goes = c.size.ensures.goes; sure = c.size.ensures.sure }) (record { reads = c.write.ensures.reads; goes = c.write.ensures.goes; sure = c.write.ensures.sure })

pub returns-clause-looks : goal.returns-clause-looks
returns-clause-looks g c =
    both (record { reads = c.size.ensures.reads; goes = c.size.ensures.goes; sure = c.size.ensures.sure }) (record { reads = c.write.ensures.reads; goes = c.write.ensures.goes; sure = c.write.ensures.sure })

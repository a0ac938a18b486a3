use Rattle.vfs_ops.proofs.States.{both}
use Rattle.vfs_ops.proofs.writes.write_covered.Goals as goal

pub returns-in-Some-clause-looks : goal.returns-in-Some-clause-looks
returns-in-Some-clause-looks g c = both c.inode.ensures.looks c.write_at.ensures.looks

use Rattle.std.proofs.Common.{refl}
use Rattle.fs_model.specs.declared.op.Op.TheVariants.{Flush}
use Rattle.vfs_ops.proofs.Cutting.{cut_same}
use Rattle.vfs_ops.proofs.Others.{open_idle}
use Rattle.vfs_ops.proofs.Serving.{flush_written}
use Rattle.vfs_ops.proofs.answers.flushed.Goals as goal

pub returns-in-ReadWrite-clause-written : goal.returns-in-ReadWrite-clause-written
returns-in-ReadWrite-clause-written g c =
    flush_written c.flush.result (g.B.Backing.state c.args.backing.now).mode (g.B.Backing.state c.flush.new.backing) c.args.kept.now c.flush.new.kept c.flush.ensures.synced c.flush.ensures.pages c.flush.ensures.inodes

pub returns-in-ReadOnly-clause-cut : goal.returns-in-ReadOnly-clause-cut
returns-in-ReadOnly-clause-cut g c = cut_same (g.B.Backing.state c.args.backing.now) (g.B.Backing.state c.args.backing.now) c.args.kept.now refl

pub returns-in-ReadWrite-clause-idle : goal.returns-in-ReadWrite-clause-idle
returns-in-ReadWrite-clause-idle g c =
    open_idle (g.B.Backing.state c.args.backing.now) (g.B.Backing.state c.flush.new.backing) c.args.kept.now c.flush.new.kept Flush c.mode.result c.mode.ensures c.in-ReadWrite.is

use Rattle.fs_model.specs.declared.op.Op.TheVariants.{Fsync}
use Rattle.std.proofs.Common.{ap}
use Rattle.vfs_ops.proofs.Cutting.{cut_same}
use Rattle.vfs_ops.proofs.Others.{open_idle, same_leave}
use Rattle.vfs_ops.proofs.Serving.{fsync_written}
use Rattle.vfs_ops.proofs.answers.synced.Goals as goal

pub returns-in-ReadWrite-clause-written : goal.returns-in-ReadWrite-clause-written
returns-in-ReadWrite-clause-written g c =
    fsync_written c.fsync.result (g.B.Backing.state c.args.backing.now).mode (g.B.Backing.state c.fsync.new.backing) c.args.kept.now c.fsync.new.kept c.args.caller c.args.slot c.fsync.ensures.synced c.fsync.ensures.pages

pub returns-in-ReadWrite-clause-others : goal.returns-in-ReadWrite-clause-others
returns-in-ReadWrite-clause-others g c = c.fsync.ensures.others

pub returns-in-ReadOnly-clause-others : goal.returns-in-ReadOnly-clause-others
returns-in-ReadOnly-clause-others g c = same_leave c.args.kept.now c.named.new.kept c.args.caller (Fsync c.args.slot) c.named.ensures.kept

pub returns-in-ReadOnly-clause-cut : goal.returns-in-ReadOnly-clause-cut
returns-in-ReadOnly-clause-cut g c = cut_same (g.B.Backing.state c.args.backing.now) (g.B.Backing.state c.named.new.backing) c.args.kept.now (ap (λ b. (g.B.Backing.state b).journal) c.named.ensures.same)

pub returns-in-ReadWrite-clause-idle : goal.returns-in-ReadWrite-clause-idle
returns-in-ReadWrite-clause-idle g c =
    open_idle (g.B.Backing.state c.args.backing.now) (g.B.Backing.state c.fsync.new.backing) c.args.kept.now c.fsync.new.kept (Fsync c.args.slot) c.mode.result c.mode.ensures c.in-ReadWrite.is

pub returns-in-ReadOnly-clause-idle : goal.returns-in-ReadOnly-clause-idle
returns-in-ReadOnly-clause-idle g c = λ sync closed. (ap (λ b. g.B.Backing.state b) c.named.ensures.same, c.named.ensures.kept)

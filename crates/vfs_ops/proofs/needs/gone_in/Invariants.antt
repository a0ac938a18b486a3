use Rattle.std.proofs.Common.{◌≡◌, drop}
use Rattle.vfs_ops.specs.Operations.{gone_in}
use Rattle.vfs_ops.proofs.needs.gone_in.Given as goal

abbrev pub invariant-loop-change : goal.invariant-loop-change
invariant-loop-change l = gone_in (drop l.change-index l.changes) ≡ gone_in l.changes

use Rattle.std.proofs.Common.{◌≡◌, drop}
use Rattle.vfs_ops.specs.Operations.{orphans}
use Rattle.vfs_ops.proofs.changes.orphans.Given as goal

abbrev pub invariant-loop-change : goal.invariant-loop-change
invariant-loop-change l = orphans (drop l.change-index l.changes) ≡ orphans l.changes

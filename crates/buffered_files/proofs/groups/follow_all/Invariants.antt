use Rattle.std.proofs.Common.{◌≡◌}
use Rattle.buffered_files.specs.Follow.{followed}
use Rattle.buffered_files.proofs.groups.follow_all.Given as goal

abbrev pub invariant-loop-change : goal.invariant-loop-change
invariant-loop-change l = l.kept ≡ followed l.fn.kept l.yielded

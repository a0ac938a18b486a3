use Rattle.std.proofs.Common.{◌≡◌, ◌≤◌, length}
use Rattle.std.specs.Prelude.{vec_capacity}
use Rattle.writeback.proofs.together.cut_keys.Given as goal

abbrev pub invariant-loop-cut : goal.invariant-loop-cut
invariant-loop-cut l = (length l.keys.items ≡ l.cut) × (l.workers ≤ vec_capacity l.keys)

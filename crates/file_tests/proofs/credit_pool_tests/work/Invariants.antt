use Rattle.std.proofs.Common.{◌≡◌, ◌≤◌}
use Rattle.file_tests.proofs.credit_pool_tests.work.Given as goal

abbrev pub invariant-loop-round : goal.invariant-loop-round
invariant-loop-round l = (l.seat.pool ≡ l.pool) × (l.seat.caller ≡ l.initial.seat.caller) × (l.seat.held ≡ l.held) × (l.held ≤ 4)

use Rattle.std.proofs.Common.{length, ◌≤◌}
use Rattle.tree_check.specs.KeyOrder.{IsAheadOf}
use Rattle.tree_check.proofs.key_order.is_ahead_of.Given as goal

abbrev pub invariant-passing : goal.invariant-passing
invariant-passing l = (l.passed ≤ 16) × (IsAheadOf l.shown l.left → IsAheadOf l.shown l.behind)

abbrev pub decreases-passing : goal.decreases-passing
decreases-passing l = length l.left

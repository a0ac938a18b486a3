use Rattle.std.proofs.Common.{length, ◌≤◌}
use Rattle.leaf_recovery.specs.Repeated.{IsFoundAhead}
use Rattle.leaf_recovery.proofs.repeated.is_ahead_of.Given as goal

abbrev pub invariant-passing : goal.invariant-passing
invariant-passing l = (l.passed ≤ 16) × (IsFoundAhead l.content l.left → IsFoundAhead l.content l.behind)

abbrev pub decreases-passing : goal.decreases-passing
decreases-passing l = length l.left

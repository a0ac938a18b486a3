use Rattle.std.proofs.Common.{length, ◌≤◌}
use Rattle.shown_leaves.specs.Spots.{IsApartFrom}
use Rattle.shown_leaves.proofs.twice.is_ahead_of.Given as goal

abbrev pub invariant-passing : goal.invariant-passing
invariant-passing l = (l.passed ≤ 16) × (IsApartFrom l.leaf l.left → IsApartFrom l.leaf l.behind)

abbrev pub decreases-passing : goal.decreases-passing
decreases-passing l = length l.left

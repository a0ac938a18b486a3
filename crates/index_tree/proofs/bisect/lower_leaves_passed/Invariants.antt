use Rattle.std.proofs.Common.{◌≡◌, ◌-◌, ◌<◌, ◌≤◌, true, length, drop}
use Rattle.index_tree.specs.Order.{starts_within}
use Rattle.index_tree.proofs.bisect.lower_leaves_passed.Given as goal

abbrev pub invariant-loop-i : goal.invariant-loop-i
invariant-loop-i l = record { bound : l.i ≤ length l.leaves; positive : 0 < l.i → 0 < l.at; starts : 0 < l.i → starts_within (l.at - 1) (drop l.i l.leaves) ≡ true }

abbrev pub decreases-loop-i : goal.decreases-loop-i
decreases-loop-i l = length l.leaves - l.i

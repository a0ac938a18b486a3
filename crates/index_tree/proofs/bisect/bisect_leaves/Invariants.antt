use Rattle.std.proofs.Common.{◌≡◌, ◌-◌, ◌<◌, ◌≤◌, true, length, drop}
use Rattle.index_tree.specs.Order.{starts_within}
use Rattle.index_tree.proofs.bisect.bisect_leaves.Given as goal

abbrev pub invariant-loop-high : goal.invariant-loop-high
invariant-loop-high l = record { between : l.low ≤ l.high; bound : l.high ≤ length l.leaves; starts : 0 < l.low → starts_within l.at (drop l.low l.leaves) ≡ true }

abbrev pub decreases-loop-high : goal.decreases-loop-high
decreases-loop-high l = l.high - l.low

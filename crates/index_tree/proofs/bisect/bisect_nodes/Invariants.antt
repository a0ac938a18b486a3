use Rattle.std.proofs.Common.{◌≡◌, ◌-◌, ◌<◌, ◌≤◌, true, length, drop}
use Rattle.index_tree.specs.Shape.{begins_within}
use Rattle.index_tree.specs.Tree.{row}
use Rattle.index_tree.proofs.bisect.bisect_nodes.Given as goal

abbrev pub invariant-loop-high : goal.invariant-loop-high
invariant-loop-high l = record { between : l.low ≤ l.high; bound : l.high ≤ length l.nodes; begins : 0 < l.low → begins_within l.at (row (drop l.low l.nodes)) ≡ true }

abbrev pub decreases-loop-high : goal.decreases-loop-high
decreases-loop-high l = l.high - l.low

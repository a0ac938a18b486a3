use Rattle.std.proofs.Common.{◌≡◌, ◌-◌, ◌<◌, ◌≤◌, true, length, drop}
use Rattle.index_tree.specs.Shape.{begins_within}
use Rattle.index_tree.specs.Tree.{row}
use Rattle.index_tree.proofs.bisect.lower_nodes_passed.Given as goal

abbrev pub invariant-loop-i : goal.invariant-loop-i
invariant-loop-i l = record { bound : l.i ≤ length l.nodes; positive : 0 < l.i → 0 < l.at; begins : 0 < l.i → begins_within (l.at - 1) (row (drop l.i l.nodes)) ≡ true }

abbrev pub decreases-loop-i : goal.decreases-loop-i
decreases-loop-i l = length l.nodes - l.i

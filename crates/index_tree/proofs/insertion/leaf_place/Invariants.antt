use Rattle.std.proofs.Common.{◌≡◌, ◌+◌, ◌-◌, ◌≤◌, length, drop}
use Rattle.index_tree.specs.Places.{leaf_place}
use Rattle.index_tree.proofs.insertion.leaf_place.Given as goal

abbrev pub invariant-loop-i : goal.invariant-loop-i
invariant-loop-i l = record { place : leaf_place l.at l.leaves ≡ l.i + leaf_place l.at (drop l.i l.leaves); bound : l.i ≤ length l.leaves }

abbrev pub decreases-loop-i : goal.decreases-loop-i
decreases-loop-i l = length l.leaves - l.i

use Rattle.std.proofs.Common.{◌≡◌, ◌+◌, ◌-◌, ◌<◌, length, drop}
use Rattle.index_tree.specs.Places.{node_place}
use Rattle.index_tree.specs.Tree.{row}
use Rattle.index_tree.proofs.insertion.node_place.Given as goal

abbrev pub invariant-loop-i : goal.invariant-loop-i
invariant-loop-i l = record { place : node_place l.at (row l.nodes) ≡ l.i + node_place l.at (row (drop l.i l.nodes)); bound : l.i < length l.nodes }

abbrev pub decreases-loop-i : goal.decreases-loop-i
decreases-loop-i l = length l.nodes - l.i

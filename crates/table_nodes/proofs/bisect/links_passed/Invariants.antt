use Rattle.std.proofs.Common.{◌≡◌, ◌-◌, ◌<◌, ◌≤◌, true, length, drop}
use Rattle.table_nodes.specs.NodeView.{links_begin}
use Rattle.table_nodes.proofs.bisect.links_passed.Given as goal

abbrev pub invariant-loop-high : goal.invariant-loop-high
invariant-loop-high l = record { between : l.low ≤ l.high; bound : l.high ≤ length l.links; begins : 0 < l.low → links_begin l.at (drop l.low l.links) ≡ true }

abbrev pub decreases-loop-high : goal.decreases-loop-high
decreases-loop-high l = l.high - l.low

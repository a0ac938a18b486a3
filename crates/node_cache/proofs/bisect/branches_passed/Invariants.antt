use Rattle.std.proofs.Common.{◌≡◌, ◌-◌, ◌<◌, ◌≤◌, true, length, drop}
use Rattle.node_cache.specs.Branches.{branches_begin}
use Rattle.node_cache.proofs.bisect.branches_passed.Given as goal

abbrev pub invariant-loop-high : goal.invariant-loop-high
invariant-loop-high l = record { between : l.low ≤ l.high; bound : l.high ≤ length l.branches; begins : 0 < l.low → branches_begin l.at (drop l.low l.branches) ≡ true }

abbrev pub decreases-loop-high : goal.decreases-loop-high
decreases-loop-high l = l.high - l.low

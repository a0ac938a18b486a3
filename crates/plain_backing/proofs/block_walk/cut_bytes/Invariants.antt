use Rattle.std.proofs.Common.{◌≡◌, ◌+◌, length}
use Rattle.plain_backing.proofs.Clearing.{cut_sum}
use Rattle.plain_backing.proofs.block_walk.cut_bytes.Given as goal

abbrev pub invariant-loop-key : goal.invariant-loop-key
invariant-loop-key l = l.total + cut_sum l.ino l.size l.left ≡ cut_sum l.ino l.size l.map.entries

abbrev pub decreases-loop-key : goal.decreases-loop-key
decreases-loop-key l = length l.left

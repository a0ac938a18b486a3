use Rattle.std.proofs.Common.{◌≡◌, ◌+◌, length, sum_by}
use Rattle.image_space.specs.Weight.{bytes_of_leaf}
use Rattle.image_space.proofs.sums.bytes_used.Given as goal

-- the bytes so far, and those of what is left
abbrev pub invariant-adding : goal.invariant-adding
invariant-adding l = l.used + sum_by bytes_of_leaf l.left ≡ sum_by bytes_of_leaf l.leaves

abbrev pub decreases-adding : goal.decreases-adding
decreases-adding l = length l.left

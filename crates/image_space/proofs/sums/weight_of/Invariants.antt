use Rattle.std.proofs.Common.{◌≡◌, ◌+◌, length}
use Rattle.image_space.specs.Weight.{weight_by_lengths}
use Rattle.image_space.proofs.sums.weight_of.Given as goal

-- the weight so far, and that of what is left
abbrev pub invariant-adding : goal.invariant-adding
invariant-adding l = l.weight + weight_by_lengths l.fanout l.left ≡ weight_by_lengths l.fanout l.nodes

abbrev pub decreases-adding : goal.decreases-adding
decreases-adding l = length l.left

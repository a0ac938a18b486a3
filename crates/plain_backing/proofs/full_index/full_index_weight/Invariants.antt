use Rattle.std.proofs.Common.{◌≡◌, ◌+◌, ◌≤◌}
use Rattle.plain_backing.specs.FullIndex.{full_index_weight}
use Rattle.plain_backing.proofs.full_index.full_index_weight.Given as goal

-- the weight so far, and that of the nodes over these siblings and above
abbrev pub invariant-rising : goal.invariant-rising
invariant-rising l = (l.weight + full_index_weight l.geo.fanout l.siblings ≡ full_index_weight l.geo.fanout l.leaves) × (l.siblings ≤ l.leaves)

abbrev pub decreases-rising : goal.decreases-rising
decreases-rising l = l.siblings

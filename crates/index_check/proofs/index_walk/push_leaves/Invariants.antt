use Rattle.std.proofs.Common.{◌≡◌, ◌++◌, length, map}
use Rattle.index_media.specs.PlacedRow.{leaf_of}
use Rattle.index_check.proofs.index_walk.push_leaves.Given as goal

-- what was added, and the leaves of what is left, are all
abbrev pub invariant-adding : goal.invariant-adding
invariant-adding l = l.leaves.items ++ map leaf_of l.left ≡ l.fn.leaves.items ++ map leaf_of l.branches

abbrev pub decreases-adding : goal.decreases-adding
decreases-adding l = length l.left

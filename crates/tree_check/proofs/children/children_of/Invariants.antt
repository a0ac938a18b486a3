use Rattle.std.proofs.Common.{◌≡◌, ◌++◌, ℕ, length}
use Rattle.tree_check.specs.Reach.{children_at, inodes_below}
use Rattle.tree_check.proofs.children.children_of.Given as goal

-- those so far and those of the links that are left are all
abbrev pub invariant-adding : goal.invariant-adding
invariant-adding l = (d : ℕ) → children_at l.children d ++ inodes_below l.left d ≡ inodes_below l.links d

abbrev pub decreases-adding : goal.decreases-adding
decreases-adding l = length l.left

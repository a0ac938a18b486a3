use Rattle.std.proofs.Common.{◌≡◌, ◌++◌, length}
use Rattle.tree_check.specs.Kinds.{inode_kinds}
use Rattle.tree_check.proofs.kinds.inode_kinds.Given as goal

-- the inodes so far, with those of the leaves that are left, are all
abbrev pub invariant-adding : goal.invariant-adding
invariant-adding l = l.inodes.items ++ inode_kinds l.left ≡ inode_kinds l.leaves

abbrev pub decreases-adding : goal.decreases-adding
decreases-adding l = length l.left

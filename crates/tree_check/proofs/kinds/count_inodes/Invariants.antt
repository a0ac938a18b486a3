use Rattle.std.proofs.Common.{◌≡◌, ◌+◌, ◌≤◌, drop}
use Rattle.tree_check.specs.Kinds.{inodes_shown}
use Rattle.tree_check.proofs.kinds.count_inodes.Given as goal

-- those so far and those among the leaves that are left are all
abbrev pub invariant-loop-leaf : goal.invariant-loop-leaf
invariant-loop-leaf l = (l.count + inodes_shown (drop l.leaf-index l.leaves) ≡ inodes_shown l.leaves) × (l.count ≤ l.leaf-index)

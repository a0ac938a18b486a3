use Rattle.std.proofs.Common.{◌≡◌, ◌++◌, drop}
use Rattle.leaf_recovery.specs.Lost.{empty_told}
use Rattle.leaf_recovery.proofs.lost.empty_leaves.Given as goal

abbrev pub invariant-loop-leaf : goal.invariant-loop-leaf
invariant-loop-leaf l = l.empty.items ++ empty_told (drop l.leaf-index l.lost) ≡ empty_told l.lost

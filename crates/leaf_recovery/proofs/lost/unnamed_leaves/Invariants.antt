use Rattle.std.proofs.Common.{◌≡◌, ◌++◌, drop}
use Rattle.leaf_recovery.specs.Lost.{unnamed_told}
use Rattle.leaf_recovery.proofs.lost.unnamed_leaves.Given as goal

abbrev pub invariant-loop-leaf : goal.invariant-loop-leaf
invariant-loop-leaf l = l.missing.items ++ unnamed_told l.names.items (drop l.leaf-index l.lost) ≡ unnamed_told l.fn.names.items l.lost

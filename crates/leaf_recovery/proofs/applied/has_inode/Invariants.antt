use Rattle.std.proofs.Common.{◌≡◌, drop}
use Rattle.leaf_recovery.specs.Things.{has_inode_told}
use Rattle.leaf_recovery.proofs.applied.has_inode.Given as goal

abbrev pub invariant-loop-leaf : goal.invariant-loop-leaf
invariant-loop-leaf l = has_inode_told (drop l.leaf-index l.kept) l.ino ≡ has_inode_told l.kept l.ino

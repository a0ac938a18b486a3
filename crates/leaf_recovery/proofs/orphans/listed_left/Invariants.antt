use Rattle.std.proofs.Common.{◌≡◌, ◌++◌, drop}
use Rattle.leaf_recovery.specs.Applied.{listed_left_told}
use Rattle.leaf_recovery.proofs.orphans.listed_left.Given as goal

abbrev pub invariant-loop-ino : goal.invariant-loop-ino
invariant-loop-ino l = l.left.items ++ listed_left_told l.references l.committed (drop l.ino-index l.listed) ≡ listed_left_told l.references l.committed l.listed

use Rattle.std.proofs.Common.{◌≡◌, drop}
use Rattle.leaf_recovery.specs.Moved.{copy_of_told}
use Rattle.leaf_recovery.proofs.moved.copy_of.Given as goal

abbrev pub invariant-loop-copy : goal.invariant-loop-copy
invariant-loop-copy l = copy_of_told (drop l.copy-index l.copies) l.leaf ≡ copy_of_told l.copies l.leaf

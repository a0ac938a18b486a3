use Rattle.std.proofs.Common.{◌≡◌, drop}
use Rattle.leaf_recovery.specs.Found.{copy_of_key_told}
use Rattle.leaf_recovery.proofs.copies.copy_of_key.Given as goal

abbrev pub invariant-loop-copy : goal.invariant-loop-copy
invariant-loop-copy l = copy_of_key_told l.leaf (drop l.copy-index l.copies) ≡ copy_of_key_told l.leaf l.copies

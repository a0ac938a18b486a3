use Rattle.std.proofs.Common.{◌≡◌, ◌++◌, drop}
use Rattle.leaf_recovery.specs.Found.{spare_copies_told}
use Rattle.leaf_recovery.proofs.copies.spare_copies.Given as goal

abbrev pub invariant-loop-copy : goal.invariant-loop-copy
invariant-loop-copy l = l.spare.items ++ spare_copies_told l.references l.committed (drop l.copy-index l.copies) ≡ spare_copies_told l.references l.committed l.copies

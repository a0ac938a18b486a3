use Rattle.std.proofs.Common.{◌≡◌, drop}
use Rattle.std.specs.List.{list_any}
use Rattle.leaf_recovery.specs.Found.{is_original_told}
use Rattle.leaf_recovery.proofs.copies.has_original.Given as goal

abbrev pub invariant-loop-leaf : goal.invariant-loop-leaf
invariant-loop-leaf l = list_any (is_original_told l.references l.copy) (drop l.leaf-index l.committed) ≡ list_any (is_original_told l.references l.copy) l.committed

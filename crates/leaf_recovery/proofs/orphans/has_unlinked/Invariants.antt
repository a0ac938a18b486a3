use Rattle.std.proofs.Common.{◌≡◌, drop}
use Rattle.std.specs.List.{list_any}
use Rattle.leaf_recovery.specs.Things.{is_unlinked_told}
use Rattle.leaf_recovery.proofs.orphans.has_unlinked.Given as goal

abbrev pub invariant-loop-leaf : goal.invariant-loop-leaf
invariant-loop-leaf l = list_any (λ x. is_unlinked_told l.ino x.content) (drop l.leaf-index l.kept) ≡ list_any (λ x. is_unlinked_told l.ino x.content) l.kept

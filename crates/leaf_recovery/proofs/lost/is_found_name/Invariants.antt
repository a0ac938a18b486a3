use Rattle.std.proofs.Common.{◌≡◌, drop}
use Rattle.std.specs.List.{list_any}
use Rattle.leaf_recovery.specs.Things.{same_name_told}
use Rattle.leaf_recovery.proofs.lost.is_found_name.Given as goal

abbrev pub invariant-loop-leaf : goal.invariant-loop-leaf
invariant-loop-leaf l = list_any (λ k. same_name_told k.content l.content) (drop l.leaf-index l.found) ≡ list_any (λ k. same_name_told k.content l.content) l.found

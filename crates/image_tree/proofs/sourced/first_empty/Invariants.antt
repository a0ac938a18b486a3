use Rattle.std.proofs.Common.{◌≡◌, Some, None, drop, fold}
use Rattle.image_check.specs.WrongValues.{sooner_of}
use Rattle.image_tree.specs.Sources.{empty_at}
use Rattle.image_tree.proofs.sourced.first_empty.Given as goal

abbrev pub invariant-loop-leaf : goal.invariant-loop-leaf
invariant-loop-leaf l = fold (λ first leaf. sooner_of first (Some (empty_at leaf))) l.first (drop l.leaf-index l.empty) ≡ fold (λ first leaf. sooner_of first (Some (empty_at leaf))) None l.empty

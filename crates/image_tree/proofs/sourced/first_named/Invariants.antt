use Rattle.std.proofs.Common.{◌≡◌, Some, None, drop, fold}
use Rattle.image_check.specs.WrongValues.{sooner_of}
use Rattle.tree_check.specs.Places.{misplaced_at}
use Rattle.image_tree.proofs.sourced.first_named.Given as goal

abbrev pub invariant-loop-leaf : goal.invariant-loop-leaf
invariant-loop-leaf l = fold (λ first leaf. sooner_of first (Some (misplaced_at leaf))) l.first (drop l.leaf-index l.leaves) ≡ fold (λ first leaf. sooner_of first (Some (misplaced_at leaf))) None l.leaves

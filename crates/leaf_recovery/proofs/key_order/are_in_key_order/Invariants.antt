use Rattle.std.proofs.Common.{length}
use Rattle.leaf_recovery.specs.Ranked.{AreInKeyOrder}
use Rattle.leaf_recovery.proofs.key_order.are_in_key_order.Given as goal

abbrev pub invariant-going : goal.invariant-going
invariant-going l = AreInKeyOrder l.low l.left → AreInKeyOrder 0 l.leaves

abbrev pub decreases-going : goal.decreases-going
decreases-going l = length l.left

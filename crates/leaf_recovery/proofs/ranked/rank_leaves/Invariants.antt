use Rattle.std.proofs.Common.{◌≡◌, ℕ}
use Rattle.leaf_recovery.specs.Ranked.{leaves_at_rank, leaves_with_rank}
use Rattle.leaf_recovery.proofs.ranked.rank_leaves.Given as goal

abbrev pub invariant-loop-leaf : goal.invariant-loop-leaf
invariant-loop-leaf l = (r : ℕ) → leaves_at_rank l.ranked r ≡ leaves_with_rank r l.yielded

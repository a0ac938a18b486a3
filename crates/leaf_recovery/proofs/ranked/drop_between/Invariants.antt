use Rattle.std.proofs.Common.{◌≡◌, ◌≤◌, ◌-◌, ℕ}
use Rattle.leaf_recovery.specs.Ranked.{leaves_at_rank}
use Rattle.leaf_recovery.proofs.Dropping.{left_at}
use Rattle.leaf_recovery.proofs.ranked.drop_between.Given as goal

-- what is ended at the places so far is gone
abbrev pub invariant-passing : goal.invariant-passing
invariant-passing l = (l.first ≤ l.at) × ((r : ℕ) → leaves_at_rank l.ranked r ≡ left_at l.content l.first l.past (leaves_at_rank l.fn.ranked) l.at r)

abbrev pub decreases-passing : goal.decreases-passing
decreases-passing l = l.past - l.at

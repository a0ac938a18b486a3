use Rattle.std.proofs.Common.{◌≡◌, ℕ, length}
use Rattle.std.specs.Prelude.{◌||◌, ◌&&◌, not}
use Rattle.tree_check.specs.Reach.{has, mem}
use Rattle.tree_check.proofs.reach.note_all.Given as goal

-- what is reached so far and by the numbers that are left is what all reach
abbrev pub invariant-noting : goal.invariant-noting
invariant-noting l =
    ((q : ℕ) → (has l.reached q || mem q l.left) ≡ (has l.fn.reached q || mem q l.numbers))
    × ((q : ℕ) → (mem q l.next.items || (mem q l.left && not (has l.reached q))) ≡ (mem q l.fn.next.items || (mem q l.numbers && not (has l.fn.reached q))))

abbrev pub decreases-noting : goal.decreases-noting
decreases-noting l = length l.left

use Rattle.std.proofs.Common.{◌≡◌, ℕ, length}
use Rattle.std.specs.Prelude.{◌||◌, ◌&&◌, not}
use Rattle.tree_check.specs.Reach.{has, leads, mem}
use Rattle.tree_check.proofs.reach.below.Given as goal

-- what is reached so far and from the directories that are left is what is reached from all
abbrev pub invariant-going : goal.invariant-going
invariant-going l =
    ((q : ℕ) → (has l.reached q || leads l.children l.left q) ≡ (has l.fn.reached q || leads l.children l.level q))
    × ((q : ℕ) → (mem q l.next.items || (leads l.children l.left q && not (has l.reached q))) ≡ (leads l.children l.level q && not (has l.fn.reached q)))

abbrev pub decreases-going : goal.decreases-going
decreases-going l = length l.left

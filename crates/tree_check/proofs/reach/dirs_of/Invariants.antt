use Rattle.std.proofs.Common.{◌≡◌, ℕ, length}
use Rattle.std.specs.Prelude.{◌||◌, ◌==◌}
use Rattle.std.specs.List.{list_any}
use Rattle.tree_check.specs.Reach.{mem}
use Rattle.tree_check.proofs.reach.dirs_of.Given as goal

-- the directories so far and those of the links that are left are those of all
abbrev pub invariant-adding : goal.invariant-adding
invariant-adding l = (q : ℕ) → (mem q l.dirs.items || list_any (λ link. link.dir == q) l.left) ≡ list_any (λ link. link.dir == q) l.links

abbrev pub decreases-adding : goal.decreases-adding
decreases-adding l = length l.left

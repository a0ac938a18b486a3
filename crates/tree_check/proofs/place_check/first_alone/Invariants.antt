use Rattle.std.proofs.Common.{◌≡◌, length, map}
use Rattle.tree_check.specs.Facts.{facts_in}
use Rattle.tree_check.specs.LinkFindings.{soonest_of}
use Rattle.tree_check.specs.Places.{wrong_alone}
use Rattle.tree_check.proofs.place_check.first_alone.Given as goal

-- the first of what is found so far and of the leaves that are left is that of all
abbrev pub invariant-telling : goal.invariant-telling
invariant-telling l = soonest_of l.first (map (wrong_alone (facts_in l.facts)) l.left) ≡ soonest_of l.fn.found (map (wrong_alone (facts_in l.facts)) l.leaves)

abbrev pub decreases-telling : goal.decreases-telling
decreases-telling l = length l.left

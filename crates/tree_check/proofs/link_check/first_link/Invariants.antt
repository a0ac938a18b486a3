use Rattle.std.proofs.Common.{◌≡◌, None, length, map}
use Rattle.tree_check.specs.LinkFindings.{soonest_of, wrong_link}
use Rattle.tree_check.specs.Links.{count_to}
use Rattle.tree_check.proofs.link_check.first_link.Given as goal

-- the first of what is found so far and of the leaves that are left is that of all
abbrev pub invariant-telling : goal.invariant-telling
invariant-telling l = soonest_of l.first (map (wrong_link (count_to l.links.links.items)) l.left) ≡ soonest_of None (map (wrong_link (count_to l.links.links.items)) l.leaves)

abbrev pub decreases-telling : goal.decreases-telling
decreases-telling l = length l.left

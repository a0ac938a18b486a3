use Rattle.std.proofs.Common.{◌≡◌, ◌++◌, length}
use Rattle.tree_check.specs.Links.{entry_links}
use Rattle.tree_check.proofs.links.entry_links.Given as goal

-- the links so far, with those of the leaves that are left, are all
abbrev pub invariant-adding : goal.invariant-adding
invariant-adding l = l.links.items ++ entry_links l.left ≡ entry_links l.leaves

abbrev pub decreases-adding : goal.decreases-adding
decreases-adding l = length l.left

use Rattle.std.proofs.Common.{◌≡◌, length}
use Rattle.tree_check.specs.Links.{entries_shown, entries_over}
use Rattle.tree_check.proofs.links.entries_of.Given as goal

-- the entries of the leaves that are left, over those so far, are all
abbrev pub invariant-setting : goal.invariant-setting
invariant-setting l = entries_over l.left l.entries.entries ≡ entries_shown l.leaves

abbrev pub decreases-setting : goal.decreases-setting
decreases-setting l = length l.left

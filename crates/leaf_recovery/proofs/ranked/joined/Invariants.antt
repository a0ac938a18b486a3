use Rattle.std.proofs.Common.{◌≡◌, ◌++◌, length}
use Rattle.leaf_recovery.proofs.Ranking.{joined_entries}
use Rattle.leaf_recovery.proofs.ranked.joined.Given as goal

-- what is joined and what is left are all
abbrev pub invariant-joining : goal.invariant-joining
invariant-joining l = l.joined.items ++ joined_entries l.left.entries ≡ joined_entries l.fn.ranked.entries

abbrev pub decreases-joining : goal.decreases-joining
decreases-joining l = length l.left.entries

use Rattle.std.proofs.Common.{length}
use Rattle.tree_check.specs.Facts.{facts_in}
use Rattle.tree_check.proofs.SeenSoFar.{IsSeenSoFar}
use Rattle.tree_check.proofs.place_check.first_behind.Given as goal

abbrev pub invariant-telling : goal.invariant-telling
invariant-telling l = IsSeenSoFar (facts_in l.facts) l.fn.leaves l.left l.seen l.fn.found l.first

abbrev pub decreases-telling : goal.decreases-telling
decreases-telling l = length l.left

use Rattle.std.proofs.Common.{length}
use Rattle.shown_leaves.specs.Spots.{AreSpotsApart}
use Rattle.shown_leaves.proofs.twice.are_apart.Given as goal

abbrev pub invariant-going : goal.invariant-going
invariant-going l = AreSpotsApart l.left → AreSpotsApart l.leaves

abbrev pub decreases-going : goal.decreases-going
decreases-going l = length l.left

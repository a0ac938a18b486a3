use Rattle.std.proofs.Common.{length}
use Rattle.leaf_check.proofs.CommittedLeaves.{PlacesRead}
use Rattle.leaf_check.proofs.committed.read_places.Given as goal

abbrev pub invariant-reading : goal.invariant-reading
invariant-reading g l = PlacesRead (g.V.Volume.state l.fn.volume) (g.V.Volume.state l.volume) l.left l.leaves l.reads.items

abbrev pub decreases-reading : goal.decreases-reading
decreases-reading g l = length l.left

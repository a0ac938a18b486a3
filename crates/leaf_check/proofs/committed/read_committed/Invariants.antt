use Rattle.std.proofs.Common.{length}
use Rattle.std.specs.Prelude.{All}
use Rattle.sound_image.specs.Leaves.{HasItsNode}
use Rattle.leaf_check.proofs.CommittedLeaves.{ReadSoFar}
use Rattle.leaf_check.proofs.committed.read_committed.Given as goal

-- the leaves so far, and those of them that are intact
abbrev pub invariant-reading : goal.invariant-reading
invariant-reading g l =
    ReadSoFar (g.V.Volume.state l.fn.volume) (g.V.Volume.state l.volume) l.left l.leaves l.committed.items
    × All (HasItsNode (g.V.Volume.state l.fn.volume).holds) l.intact.items

abbrev pub decreases-reading : goal.decreases-reading
decreases-reading g l = length l.left

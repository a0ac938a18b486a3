use Rattle.std.proofs.Common.{length}
use Rattle.leaf_map.specs.Parts.{Parts}
use Rattle.image_check.specs.KeptLaws.{IsKept}
use Rattle.shown_leaves.specs.Copies.{ArePartsTold}
use Rattle.shown_leaves.proofs.CopiedNodes.{FalseSoFar}
use Rattle.shown_leaves.proofs.copies.first_false_copy.Given as goal

-- the nodes so far, and the first of them that is no copy
abbrev pub invariant-comparing : goal.invariant-comparing
invariant-comparing g l = record {
  kept : IsKept (g.V.Volume.state l.fn.volume) (g.V.Volume.state l.volume);
  found : (parts : Parts) → ArePartsTold (g.V.Volume.state l.fn.volume).holds parts l.references l.committed l.copies → FalseSoFar (g.V.Volume.state l.fn.volume).holds parts l.left l.first;
}

abbrev pub decreases-comparing : goal.decreases-comparing
decreases-comparing g l = length l.left

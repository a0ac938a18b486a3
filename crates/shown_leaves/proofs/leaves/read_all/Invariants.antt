use Rattle.std.proofs.Common.{◌≡◌, length, List}
use Rattle.leaf_map.specs.Kept.{Kept}
use Rattle.image_check.specs.KeptLaws.{IsKept}
use Rattle.shown_leaves.specs.Sources.{AreSourced}
use Rattle.shown_leaves.proofs.JudgedLeaves.{ToldSoFar}
use Rattle.shown_leaves.proofs.leaves.read_all.Given as goal

-- the leaves so far
abbrev pub invariant-reading : goal.invariant-reading
invariant-reading g l = record {
  room : length l.buffer ≡ 4256;
  kept : IsKept (g.V.Volume.state l.fn.volume) (g.V.Volume.state l.volume);
  told : (kept : List Kept) → AreSourced (g.V.Volume.state l.fn.volume).holds kept l.leaves → ToldSoFar (g.V.Volume.state l.fn.volume).holds kept l.left l.shown.items l.unlike;
}

abbrev pub decreases-reading : goal.decreases-reading
decreases-reading g l = length l.left

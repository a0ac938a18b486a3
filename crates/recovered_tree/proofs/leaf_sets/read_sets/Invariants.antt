use Rattle.std.proofs.Common.{◌≡◌, length, List, map}
use Rattle.std.specs.List.{AllByRecursion}
use Rattle.leaf_map.specs.Kept.{Kept}
use Rattle.sound_image.specs.Tree.{ShowsItsNode}
use Rattle.image_check.specs.KeptLaws.{IsKept}
use Rattle.recovered_tree.proofs.SetsSoFar.{ReadSoFar}
use Rattle.recovered_tree.proofs.leaf_sets.read_sets.Given as goal

-- the leaves so far
abbrev pub invariant-reading : goal.invariant-reading
invariant-reading g l = record {
  kept : IsKept (g.V.Volume.state l.fn.volume) (g.V.Volume.state l.volume);
  read : (kept : List Kept) → l.leaves ≡ map (λ (x : Kept). x.leaf) kept → AllByRecursion (ShowsItsNode (g.V.Volume.state l.fn.volume).holds) kept → ReadSoFar (g.V.Volume.state l.fn.volume).holds kept l.left l.sets;
}

abbrev pub decreases-reading : goal.decreases-reading
decreases-reading g l = length l.left

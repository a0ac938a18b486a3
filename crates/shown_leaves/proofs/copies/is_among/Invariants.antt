use Rattle.std.proofs.Common.{length, List}
use Rattle.leaf_map.specs.Parts.{Committed, Named}
use Rattle.image_check.specs.KeptLaws.{IsKept}
use Rattle.shown_leaves.specs.Copies.{AreCommittedTold}
use Rattle.shown_leaves.specs.Stored.{leaf_node}
use Rattle.shown_leaves.proofs.CopiedNodes.{OwnLeft}
use Rattle.shown_leaves.proofs.copies.is_among.Given as goal

-- the node is the own node of none of the leaves so far
abbrev pub invariant-comparing : goal.invariant-comparing
invariant-comparing g l = record {
  kept : IsKept (g.V.Volume.state l.fn.volume) (g.V.Volume.state l.volume);
  among : (named : List Named) (leaves : List Committed) → AreCommittedTold (g.V.Volume.state l.fn.volume).holds named leaves l.references l.committed → OwnLeft (g.V.Volume.state l.fn.volume).holds named l.rank l.references leaves l.left (leaf_node l.node);
}

abbrev pub decreases-comparing : goal.decreases-comparing
decreases-comparing g l = length l.left

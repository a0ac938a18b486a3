use Rattle.std.proofs.Common.{◌≡◌, ◌++◌, List, None, length}
use Rattle.std.specs.List.{AllByRecursion}
use Rattle.ubifs_base.specs.RawOf.{raw_of}
use Rattle.index_tree.specs.declared.leaf.Leaf.{Leaf}
use Rattle.sound_image.specs.Leaves.{HasItsNode, IsSoundLeaf}
use Rattle.image_check.specs.KeptLaws.{IsKept}
use Rattle.leaf_check.proofs.Overlaps.{last_of}
use Rattle.leaf_check.proofs.Sweeps.{SweptSoFar}
use Rattle.leaf_check.proofs.sweep.sweep.Given as goal

-- the leaves so far, the last of them, others that are known to be intact, and those that are wrong
abbrev pub invariant-sweeping : goal.invariant-sweeping
invariant-sweeping g l =
    IsKept (g.V.Volume.state l.fn.volume) (g.V.Volume.state l.volume) × (length l.buffer ≡ 4256)
    × (done : List Leaf) × (done ++ l.left ≡ l.ordered) × (l.last ≡ last_of None done)
    × AllByRecursion (HasItsNode (g.V.Volume.state l.fn.volume).holds) l.known
    × SweptSoFar (IsSoundLeaf (g.V.Volume.state l.fn.volume).holds (raw_of l.geometry) l.props) done l.ordered l.wrong.items

abbrev pub decreases-sweeping : goal.decreases-sweeping
decreases-sweeping g l = length l.left

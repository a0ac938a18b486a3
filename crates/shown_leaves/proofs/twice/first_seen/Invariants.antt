use Rattle.std.proofs.Common.{◌≡◌, ◌++◌, List, length}
use Rattle.index_tree.specs.declared.leaf.Leaf.{Leaf}
use Rattle.image_check.specs.WrongValues.{IsFirstOf}
use Rattle.shown_leaves.proofs.SameLeaves.{HasSeen}
use Rattle.shown_leaves.specs.Spots.{IsTwiceIn}
use Rattle.shown_leaves.proofs.twice.first_seen.Given as goal

-- the leaves so far were seen, and of those of them that are there twice the first is kept
abbrev pub invariant-seeing : goal.invariant-seeing
invariant-seeing l = (done : List Leaf) × (done ++ l.left ≡ l.leaves) × HasSeen l.seen done × IsFirstOf (IsTwiceIn done) l.first

abbrev pub decreases-seeing : goal.decreases-seeing
decreases-seeing l = length l.left

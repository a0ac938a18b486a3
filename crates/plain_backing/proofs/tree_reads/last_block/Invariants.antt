use Rattle.std.proofs.Common.{length}
use Rattle.plain_backing.proofs.Listing.{LastLeft}
use Rattle.plain_backing.proofs.tree_reads.last_block.Given as goal

abbrev pub invariant-loop-key : goal.invariant-loop-key
invariant-loop-key l = LastLeft l.map.entries l.left l.ino

abbrev pub decreases-loop-key : goal.decreases-loop-key
decreases-loop-key l = length l.left

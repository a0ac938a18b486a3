use Rattle.std.proofs.Common.{length}
use Rattle.index_tree.proofs.after.+leaf_after.Given as goal

abbrev pub decreases-leaf_after : goal.decreases-leaf_after
decreases-leaf_after l = length l.leaves.now

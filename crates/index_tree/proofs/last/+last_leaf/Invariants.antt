use Rattle.std.proofs.Common.{length}
use Rattle.index_tree.proofs.last.+last_leaf.Given as goal

abbrev pub decreases-last_leaf : goal.decreases-last_leaf
decreases-last_leaf l = length l.leaves.now

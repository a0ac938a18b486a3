use Rattle.std.proofs.Common.{length}
use Rattle.index_tree.proofs.find.+find_leaf.Given as goal

abbrev pub decreases-find_leaf : goal.decreases-find_leaf
decreases-find_leaf l = length l.leaves.now

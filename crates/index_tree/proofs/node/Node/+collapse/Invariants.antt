use Rattle.index_tree.specs.Tree.{below}
use Rattle.index_tree.proofs.TreeLaws.{cells}
use Rattle.index_tree.proofs.node.Node.+collapse.Given as goal

abbrev pub decreases-collapse : goal.decreases-collapse
decreases-collapse l = cells (below l.self.now)

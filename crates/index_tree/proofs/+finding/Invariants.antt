use Rattle.std.proofs.Common.{◌+◌, ◌*◌}
use Rattle.index_tree.specs.Tree.{below, row}
use Rattle.index_tree.proofs.TreeLaws.{cells}
use Rattle.index_tree.proofs.+finding.Given as goal

abbrev pub decreases-find::find_among : goal.decreases-find::find_among
decreases-find::find_among l = 2 * cells (row l.nodes.now)

abbrev pub decreases-node::Node::find : goal.decreases-node::Node::find
decreases-node::Node::find l = 2 * cells (below l.self.now) + 1

use Rattle.std.proofs.Common.{◌+◌, ◌*◌}
use Rattle.index_tree.specs.Tree.{below, row}
use Rattle.index_tree.proofs.TreeLaws.{cells}
use Rattle.index_tree.proofs.+removing.Given as goal

abbrev pub decreases-removal::remove_among : goal.decreases-removal::remove_among
decreases-removal::remove_among l = 2 * cells (row l.nodes.now)

abbrev pub decreases-node::Node::remove : goal.decreases-node::Node::remove
decreases-node::Node::remove l = 2 * cells (below l.self.now) + 1

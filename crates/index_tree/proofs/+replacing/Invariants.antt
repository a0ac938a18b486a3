use Rattle.std.proofs.Common.{◌+◌, ◌*◌}
use Rattle.index_tree.specs.Tree.{below, row}
use Rattle.index_tree.proofs.TreeLaws.{cells}
use Rattle.index_tree.proofs.+replacing.Given as goal

abbrev pub decreases-replacement::replace_among : goal.decreases-replacement::replace_among
decreases-replacement::replace_among l = 2 * cells (row l.nodes.now)

abbrev pub decreases-node::Node::replace : goal.decreases-node::Node::replace
decreases-node::Node::replace l = 2 * cells (below l.self.now) + 1

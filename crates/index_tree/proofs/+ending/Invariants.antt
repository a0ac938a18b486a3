use Rattle.std.proofs.Common.{◌+◌, ◌*◌}
use Rattle.index_tree.specs.Tree.{below, row}
use Rattle.index_tree.proofs.TreeLaws.{cells}
use Rattle.index_tree.proofs.+ending.Given as goal

abbrev pub decreases-last::last_among : goal.decreases-last::last_among
decreases-last::last_among l = 2 * cells (row l.nodes.now)

abbrev pub decreases-node::Node::last_within : goal.decreases-node::Node::last_within
decreases-node::Node::last_within l = 2 * cells (below l.self.now) + 1

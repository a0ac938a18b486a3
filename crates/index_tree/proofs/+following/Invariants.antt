use Rattle.std.proofs.Common.{◌+◌, ◌*◌}
use Rattle.index_tree.specs.Tree.{below, row}
use Rattle.index_tree.proofs.TreeLaws.{cells}
use Rattle.index_tree.proofs.+following.Given as goal

abbrev pub decreases-after::after_among : goal.decreases-after::after_among
decreases-after::after_among l = 2 * cells (row l.nodes.now)

abbrev pub decreases-node::Node::after : goal.decreases-node::Node::after
decreases-node::Node::after l = 2 * cells (below l.self.now) + 1

use Rattle.std.proofs.Common.{◌+◌, ◌*◌}
use Rattle.index_tree.specs.Tree.{below, row}
use Rattle.index_tree.proofs.TreeLaws.{cells}
use Rattle.index_tree.proofs.+pruning.Given as goal

abbrev pub decreases-range_removal::prune_among : goal.decreases-range_removal::prune_among
decreases-range_removal::prune_among l = 2 * cells (row l.nodes.now)

abbrev pub decreases-node::Node::prune : goal.decreases-node::Node::prune
decreases-node::Node::prune l = 2 * cells (below l.self.now) + 1

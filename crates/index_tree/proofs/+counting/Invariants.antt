use Rattle.std.proofs.Common.{◌+◌, ◌*◌}
use Rattle.index_tree.specs.Tree.{below, row}
use Rattle.index_tree.proofs.TreeLaws.{cells}
use Rattle.index_tree.proofs.+counting.Given as goal

abbrev pub decreases-rebuild::tally_among : goal.decreases-rebuild::tally_among
decreases-rebuild::tally_among l = 2 * cells (row l.nodes.now)

abbrev pub decreases-node::Node::tally : goal.decreases-node::Node::tally
decreases-node::Node::tally l = 2 * cells (below l.self.now) + 1

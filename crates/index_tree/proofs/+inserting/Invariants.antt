use Rattle.std.proofs.Common.{◌+◌, ◌*◌}
use Rattle.index_tree.specs.Tree.{below, row}
use Rattle.index_tree.proofs.TreeLaws.{cells}
use Rattle.index_tree.proofs.+inserting.Given as goal

abbrev pub decreases-insertion::insert_among : goal.decreases-insertion::insert_among
decreases-insertion::insert_among l = 2 * cells (row l.nodes.now.items)

abbrev pub decreases-node::Node::insert : goal.decreases-node::Node::insert
decreases-node::Node::insert l = 2 * cells (below l.self.now) + 1

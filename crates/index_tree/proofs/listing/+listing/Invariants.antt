use Rattle.std.proofs.Common.{◌+◌, ◌*◌}
use Rattle.index_tree.specs.Tree.{below, row}
use Rattle.index_tree.proofs.TreeLaws.{cells}
use Rattle.index_tree.proofs.listing.+listing.Given as goal

abbrev pub decreases-push_level : goal.decreases-push_level
decreases-push_level l = 2 * cells (row l.nodes.now)

abbrev pub decreases-push_node : goal.decreases-push_node
decreases-push_node l = 2 * cells (below l.one.now) + 1

use Rattle.std.proofs.Common.{length}
use Rattle.node_table.proofs.table.NodeTable.+most_dirty_among.Given as goal

abbrev pub decreases-most_dirty_among : goal.decreases-most_dirty_among
decreases-most_dirty_among l = length l.links.now

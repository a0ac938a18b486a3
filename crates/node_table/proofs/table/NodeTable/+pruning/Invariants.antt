use Rattle.std.proofs.Common.{◌+◌, ◌*◌}
use Rattle.std.specs.Prelude.{slice_get}
use Rattle.table_nodes.specs.NodeView.{node_views, row_of, children_in}
use Rattle.node_table.proofs.Rows.{row_size, link_size}
use Rattle.node_table.proofs.table.NodeTable.+pruning.Given as goal

abbrev pub decreases-prune_below : goal.decreases-prune_below
decreases-prune_below g l = 3 * row_size (children_in (slice_get (node_views l.self.now.nodes.items) l.top.number)) + 1

abbrev pub decreases-prune_among : goal.decreases-prune_among
decreases-prune_among g l = 3 * row_size (row_of (node_views l.self.now.nodes.items) l.links.now)

abbrev pub decreases-prune_link : goal.decreases-prune_link
decreases-prune_link g l = 3 * link_size (node_views l.self.now.nodes.items) l.link.now + 2

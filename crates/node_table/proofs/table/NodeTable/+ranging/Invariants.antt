use Rattle.std.proofs.Common.{◌+◌, ◌*◌}
use Rattle.std.specs.Prelude.{slice_get}
use Rattle.table_nodes.specs.NodeView.{node_views, row_of, children_in}
use Rattle.node_table.proofs.Rows.{row_size, link_size}
use Rattle.node_table.proofs.table.NodeTable.+ranging.Given as goal

abbrev pub decreases-push_range_below : goal.decreases-push_range_below
decreases-push_range_below g l = 3 * row_size (children_in (slice_get (node_views l.self.now.nodes.items) l.number)) + 1

abbrev pub decreases-push_range_among : goal.decreases-push_range_among
decreases-push_range_among g l = 3 * row_size (row_of (node_views l.self.now.nodes.items) l.links.now)

abbrev pub decreases-push_range_link : goal.decreases-push_range_link
decreases-push_range_link g l = 3 * link_size (node_views l.self.now.nodes.items) l.link.now + 2

use Rattle.std.proofs.Common.{◌+◌, ◌*◌}
use Rattle.std.specs.Prelude.{slice_get}
use Rattle.table_nodes.specs.NodeView.{node_views, row_of, children_in}
use Rattle.node_table.proofs.Rows.{row_size}
use Rattle.node_table.proofs.table.NodeTable.+inserting.Given as goal

abbrev pub decreases-insert_below : goal.decreases-insert_below
decreases-insert_below g l = 3 * row_size (children_in (slice_get (node_views l.self.now.nodes.items) l.top.number)) + 1

abbrev pub decreases-insert_among : goal.decreases-insert_among
decreases-insert_among g l = 3 * row_size (row_of (node_views l.self.now.nodes.items) l.links.now)

use Rattle.std.proofs.Common.{◌+◌, ◌*◌}
use Rattle.std.specs.Prelude.{slice_get}
use Rattle.table_nodes.specs.NodeView.{node_views, row_of, children_in}
use Rattle.node_table.proofs.Rows.{row_size}
use Rattle.node_table.proofs.table.NodeTable.+compacting.Given as goal

abbrev pub decreases-copy_below : goal.decreases-copy_below
decreases-copy_below g l = 3 * row_size (children_in (slice_get (node_views l.self.now.nodes.items) l.number)) + 1

abbrev pub decreases-copy_among : goal.decreases-copy_among
decreases-copy_among g l = 3 * row_size (row_of (node_views l.self.now.nodes.items) l.links.now)

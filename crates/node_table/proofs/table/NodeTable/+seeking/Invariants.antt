use Rattle.std.proofs.Common.{◌+◌, ◌*◌}
use Rattle.std.specs.Prelude.{slice_get}
use Rattle.table_nodes.specs.NodeView.{node_views, row_of, children_in}
use Rattle.node_table.proofs.Rows.{row_size, link_size}
use Rattle.node_table.proofs.table.NodeTable.+seeking.Given as goal

abbrev pub decreases-first_dirty : goal.decreases-first_dirty
decreases-first_dirty l = 3 * row_size (children_in (slice_get (node_views l.self.now.nodes.items) l.number)) + 1

abbrev pub decreases-first_dirty_among : goal.decreases-first_dirty_among
decreases-first_dirty_among l = 3 * row_size (row_of (node_views l.self.now.nodes.items) l.links.now)

abbrev pub decreases-first_dirty_link : goal.decreases-first_dirty_link
decreases-first_dirty_link l = 3 * link_size (node_views l.self.now.nodes.items) l.link.now + 2

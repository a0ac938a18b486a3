use Rattle.std.proofs.Common.{◌+◌, ◌*◌}
use Rattle.std.specs.Prelude.{slice_get}
use Rattle.table_nodes.specs.NodeView.{node_views, row_of, children_in}
use Rattle.node_table.proofs.Rows.{row_size, link_size}
use Rattle.index_cache.proofs.counting.+counting.Given as goal

abbrev pub decreases-count_at : goal.decreases-count_at
decreases-count_at l = 3 * row_size (children_in (slice_get (node_views l.table.now.nodes.items) l.number)) + 1

abbrev pub decreases-count_among : goal.decreases-count_among
decreases-count_among l = 3 * row_size (row_of (node_views l.table.now.nodes.items) l.links.now)

abbrev pub decreases-count_link : goal.decreases-count_link
decreases-count_link l = 3 * link_size (node_views l.table.now.nodes.items) l.link.now + 2

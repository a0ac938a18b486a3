use Rattle.std.specs.Prelude.{slice_get}
use Rattle.table_nodes.specs.NodeView.{node_views, children_in}
use Rattle.node_table.proofs.Rows.{row_size}
use Rattle.node_table.proofs.table.NodeTable.+sink_root.Given as goal

abbrev pub decreases-sink_root : goal.decreases-sink_root
decreases-sink_root g l = row_size (children_in (slice_get (node_views l.self.now.nodes.items) l.root.number))

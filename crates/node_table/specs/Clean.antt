-- Which nodes are clean: those that have a place, with all that is below them.
use Rattle.std.specs.Prelude.{◌≡◌, ◌<◌, ◌&&◌, ℕ, Bool, true, false, List, Option, None, Some, is_some, length, slice_get}
use Rattle.index_media.specs.Clean.{is_clean_row}
use Rattle.table_nodes.specs.NodeView.{NodeView, node_views, children_in}
use Rattle.node_table.specs.Pruning.{stretch_in}
use Rattle.table_nodes.specs.declared.node.TableNode.{TableNode}

-- whether a node is there, and it and all below it are clean
abbrev pub is_clean_node : Option NodeView → Bool
is_clean_node None = false
is_clean_node (Some v) = is_some v.place && is_clean_row v.children

-- a dirty node of a table, below which all is clean: it can be written, and be given a place
pub record IsReadyNode (nodes : List TableNode) (number : ℕ) : Type 0 where
  pub there : number < length nodes
  pub dirty : stretch_in (slice_get (node_views nodes) number) ≡ None
  pub below : is_clean_row (children_in (slice_get (node_views nodes) number)) ≡ true

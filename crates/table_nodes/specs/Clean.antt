-- Which nodes are clean with all that is below them.
use Rattle.std.specs.Prelude.{◌||◌, Bool, List, is_none}
use Rattle.std.specs.List.{list_all}
use Rattle.index_media.specs.Clean.{is_clean_row}
use Rattle.table_nodes.specs.NodeView.{NodeView}

-- whether a node is dirty, or all below it is clean too
abbrev pub is_clean_below : NodeView → Bool
is_clean_below v = is_none v.place || is_clean_row v.children

-- whether each node of which this is seen is so
abbrev pub are_clean_below : List NodeView → Bool
are_clean_below seen = list_all is_clean_below seen

-- What a walk finds below a link.
use Rattle.std.specs.Prelude.{List, slice_get}
use Rattle.index_media.specs.KeyedRow.{KeyedRow, no_more, leaf_in}
use Rattle.table_nodes.specs.NodeView.{NodeView, children_in}
use Rattle.table_nodes.specs.declared.link.Link.{Link}
use Rattle.table_nodes.specs.declared.link.Link.TheVariants.{ToLeaf, ToNode}

-- what a link leads to: the leaf alone, or the children of the node
abbrev pub inside : List NodeView → Link → KeyedRow
inside seen (ToLeaf x) = leaf_in x no_more
inside seen (ToNode key number) = children_in (slice_get seen number)

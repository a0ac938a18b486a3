-- What is left of a node, and of a link, once the leaves of a range of keys went.
use Rattle.std.specs.Prelude.{ℕ, if◌then◌else◌, List, Option, None, Some, slice_get}
use Rattle.ubifs_base.specs.declared.key.Key.{Key}
use Rattle.index_tree.specs.RangeRemoval.{in_range}
use Rattle.index_media.specs.KeyedRange.{place_without_range, pruned_by_keys}
use Rattle.index_media.specs.KeyedRemoval.{keyed_tidied}
use Rattle.index_media.specs.KeyedRow.{KeyedRow, leaf_in, node_in}
use Rattle.index_media.specs.PlacedRow.{Stretch}
use Rattle.table_nodes.specs.NodeView.{NodeView, children_in}
use Rattle.table_nodes.specs.declared.link.Link.{Link}
use Rattle.table_nodes.specs.declared.link.Link.TheVariants.{ToLeaf, ToNode}

-- the place of a node, if it is there and clean
abbrev pub stretch_in : Option NodeView → Option Stretch
stretch_in None = None
stretch_in (Some v) = v.place

-- what is left of a node before a row
abbrev pub pruned_node : ℕ → ℕ → Key → Option NodeView → KeyedRow → KeyedRow
pruned_node from to key o rest =
    keyed_tidied (node_in key (place_without_range from to (children_in o) (stretch_in o)) (pruned_by_keys from to (children_in o)) rest)

-- what is left of what a link leads to, before a row
abbrev pub pruned_link : ℕ → ℕ → List NodeView → Link → KeyedRow → KeyedRow
pruned_link from to seen (ToLeaf x) rest = if in_range from to x then rest else leaf_in x rest
pruned_link from to seen (ToNode key number) rest = pruned_node from to key (slice_get seen number) rest

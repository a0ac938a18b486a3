-- What an index is once a leaf gave way to another of its key, or to none.
use Rattle.std.specs.Prelude.{◌≡◌, if◌then◌else◌, List, [], ◌∷◌, Option, None, Some, ⊤}
use Rattle.ubifs_base.specs.Key.{IsKey}
use Rattle.ubifs_base.specs.declared.key.Key.{Key}
use Rattle.index_tree.specs.Order.{leaf_rank}
use Rattle.index_tree.specs.Removal.{holds}
use Rattle.index_tree.specs.Shape.{contents}
use Rattle.index_tree.specs.declared.leaf.Leaf.{Leaf}
use Rattle.index_media.specs.KeyedRemoval.{removed_by_keys, without_leaf_by_keys, replaced_by_keys}
use Rattle.index_media.specs.KeyedRow.{KeyedRow, bare}
use Rattle.table_nodes.specs.NodeView.{NodeView, children_in, node_before}
use Rattle.table_nodes.specs.declared.link.Link.{Link}
use Rattle.table_nodes.specs.declared.link.Link.TheVariants.{ToLeaf}

-- a leaf that comes has the key of the one that goes
abbrev pub IsExchange : Leaf → Option Leaf → Type 0
IsExchange gone None = ⊤
IsExchange gone (Some come) = (leaf_rank come ≡ leaf_rank gone) × IsKey come.key

-- a row after a removal, or after a replacement by the leaf that comes
abbrev pub exchanged_row : Leaf → Option Leaf → KeyedRow → KeyedRow
exchanged_row gone None row = removed_by_keys gone row
exchanged_row gone (Some come) row = replaced_by_keys gone come row

-- the same of a node before a row, if the leaf stands below the node
abbrev pub exchanged_node : Leaf → Option Leaf → Key → Option NodeView → KeyedRow → KeyedRow
exchanged_node gone come key o rest =
    if holds gone (contents (bare (children_in o))) then exchanged_row gone come (node_before key o rest) else node_before key o rest

-- a link to the leaf that comes, if one does
abbrev pub links_to : Option Leaf → List Link
links_to None = []
links_to (Some come) = ToLeaf come ∷ []

-- an index without a leaf, as it was where the leaf isn't there
abbrev pub tree_without : Leaf → KeyedRow → KeyedRow
tree_without gone row = if holds gone (contents (bare row)) then without_leaf_by_keys gone row else row

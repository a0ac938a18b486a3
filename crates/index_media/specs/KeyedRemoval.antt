-- What a removal and a replacement make of an index whose branches have keys. A branch keeps its key.
use Rattle.std.specs.Prelude.{◌==◌, if◌then◌else◌, None}
use Rattle.index_tree.specs.Removal.{same_leaf, holds}
use Rattle.index_tree.specs.Shape.{contents, count, lone}
use Rattle.index_tree.specs.declared.leaf.Leaf.{Leaf}
use Rattle.index_media.specs.KeyedRow.{KeyedRow, no_more, leaf_in, node_in, bare}

-- an empty node goes
abbrev pub keyed_tidied : KeyedRow → KeyedRow
keyed_tidied no_more = no_more
keyed_tidied (leaf_in x rest) = leaf_in x rest
keyed_tidied (node_in key place children rest) = if count (bare children) == 0 then rest else node_in key place children rest

-- a row without the leaf, and without the nodes that this empties. The nodes on its way are dirty, and all others as before
abbrev pub removed_by_keys : Leaf → KeyedRow → KeyedRow
removed_by_keys gone no_more = no_more
removed_by_keys gone (leaf_in x rest) = if same_leaf x gone then rest else leaf_in x (removed_by_keys gone rest)
removed_by_keys gone (node_in key place children rest) =
    if holds gone (contents (bare children)) then keyed_tidied (node_in key None (removed_by_keys gone children) rest)
    else node_in key place children (removed_by_keys gone rest)

-- a root above the lowest level with one child gives way to the child, which keeps its key and its place
abbrev pub keyed_collapsed : KeyedRow → KeyedRow
keyed_collapsed no_more = no_more
keyed_collapsed (leaf_in x rest) = leaf_in x rest
keyed_collapsed (node_in key place children rest) = if lone (bare children) then keyed_collapsed children else node_in key place children rest

-- the shape without the leaf
unfoldable pub without_leaf_by_keys : Leaf → KeyedRow → KeyedRow
without_leaf_by_keys gone row = keyed_collapsed (removed_by_keys gone row)

-- a row with the leaf at the place of the old one. The nodes on its way are dirty, and all others as before
abbrev pub replaced_by_keys : Leaf → Leaf → KeyedRow → KeyedRow
replaced_by_keys old new no_more = no_more
replaced_by_keys old new (leaf_in x rest) = if same_leaf x old then leaf_in new rest else leaf_in x (replaced_by_keys old new rest)
replaced_by_keys old new (node_in key place children rest) =
    if holds old (contents (bare children)) then node_in key None (replaced_by_keys old new children) rest
    else node_in key place children (replaced_by_keys old new rest)

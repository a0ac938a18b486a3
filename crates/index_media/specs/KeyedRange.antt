-- What the removal of the leaves of a range of keys makes of an index whose branches have keys. A branch keeps its key.
use Rattle.std.specs.Prelude.{ℕ, ◌==◌, if◌then◌else◌, Option, None, length}
use Rattle.index_tree.specs.RangeRemoval.{in_range, within_range}
use Rattle.index_tree.specs.Shape.{contents}
use Rattle.index_media.specs.KeyedRemoval.{keyed_tidied, keyed_collapsed}
use Rattle.index_media.specs.KeyedRow.{KeyedRow, no_more, leaf_in, node_in, bare}
use Rattle.index_media.specs.PlacedRow.{Stretch}

-- the place of a node with these children once the leaves of the range are gone: it is dirty if one stood below it
abbrev pub place_without_range : ℕ → ℕ → KeyedRow → Option Stretch → Option Stretch
place_without_range from to children place = if length (within_range from to (contents (bare children))) == 0 then place else None

-- a row without the leaves of the range, and without the nodes that this empties
abbrev pub pruned_by_keys : ℕ → ℕ → KeyedRow → KeyedRow
pruned_by_keys from to no_more = no_more
pruned_by_keys from to (leaf_in x rest) =
    if in_range from to x then pruned_by_keys from to rest else leaf_in x (pruned_by_keys from to rest)
pruned_by_keys from to (node_in key place children rest) =
    keyed_tidied (node_in key (place_without_range from to children place) (pruned_by_keys from to children) (pruned_by_keys from to rest))

-- the shape without the leaves of the range
unfoldable pub without_range_by_keys : ℕ → ℕ → KeyedRow → KeyedRow
without_range_by_keys from to row = keyed_collapsed (pruned_by_keys from to row)

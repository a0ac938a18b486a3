-- Which nodes of a row are clean: those that have a place. And what such a row is on the medium.
use Rattle.std.specs.Prelude.{◌&&◌, Bool, true, Option, None, Some, is_some}
use Rattle.ubifs_base.specs.declared.key.Key.{Key}
use Rattle.media_sys.specs.declared.branch.Branch.{Branch}
use Rattle.index_media.specs.KeyedRow.{KeyedRow, no_more, leaf_in, node_in}
use Rattle.index_media.specs.PlacedRow.{PlacedRow, ended, leaf_at, node_at, Stretch}

-- whether each node of a row is clean
abbrev pub is_clean_row : KeyedRow → Bool
is_clean_row no_more = true
is_clean_row (leaf_in x rest) = is_clean_row rest
is_clean_row (node_in key place children rest) = is_some place && (is_clean_row children && is_clean_row rest)

-- the branch to a node of this key that stands at a place; to a dirty one it leads nowhere
abbrev pub node_branch : Key → Option Stretch → Branch
node_branch key None = record { lnum = 0; offs = 0; len = 0; key = key }
node_branch key (Some place) = record { lnum = place.lnum; offs = place.offs; len = place.len; key = key }

-- a row as it stands on the medium, where all of it is clean
abbrev pub placed_of : KeyedRow → PlacedRow
placed_of no_more = ended
placed_of (leaf_in x rest) = leaf_at x (placed_of rest)
placed_of (node_in key place children rest) = node_at (node_branch key place) (placed_of children) (placed_of rest)

-- What is below a node that isn't loaded: what the LEBs held when it was met tells it.
use Rattle.std.specs.Prelude.{ℕ, zero, suc, Bool, List, [], ◌∷◌, ◌++◌, Option, None, Some, is_none, slice_get, unwrap_or}
use Rattle.std.specs.List.{list_all}
use Rattle.ubifs_base.specs.declared.key.Key.TheVariants.{Ino}
use Rattle.index_media.specs.KeyedRow.{KeyedRow, leaf_in, node_in, all_clean}
use Rattle.index_media.specs.PlacedRow.{leaf_of, stretch_of}
use Rattle.media_sys.specs.declared.branch.Branch.{Branch}
use Rattle.rows_below.specs.NodeSaid.{node_said_at}
use Rattle.rows_below.specs.RowBelow.{row_by}
use Rattle.told_value.specs.declared.told.Told.{Told}
use Rattle.table_nodes.specs.declared.node.NodePlace.{NodePlace}
use Rattle.table_nodes.specs.declared.node.TableNode.{TableNode}
use Rattle.table_nodes.specs.declared.seen.MediumSeen.{MediumSeen}

-- contents that are told as a list, one LEB after another
abbrev pub contents_told : List (List ℕ) → ℕ → List ℕ
contents_told lebs k = unwrap_or (slice_get lebs k) []

-- what the first n LEBs hold, one after another
abbrev pub lebs_held : (ℕ → List ℕ) → ℕ → List (List ℕ)
lebs_held contents zero = []
lebs_held contents (suc n) = lebs_held contents n ++ contents n ∷ []

-- where a branch leads, as the place of a node
abbrev pub place_by : Branch → NodePlace
place_by branch = record { lnum = branch.lnum; offs = branch.offs; len = branch.len }

-- a branch to a place
abbrev pub branch_at_place : NodePlace → Branch
branch_at_place place = record { lnum = place.lnum; offs = place.offs; len = place.len; key = Ino 0 }

-- the row below a node that stands where a branch leads, over what LEBs held
abbrev pub row_told : List (List ℕ) → ℕ → Branch → KeyedRow
row_told lebs level branch = all_clean (row_by (contents_told lebs) level (node_said_at (contents_told lebs) branch).branches)

-- the same of a place; without one, the row of the node's links
abbrev pub row_at_place : List (List ℕ) → ℕ → Option NodePlace → KeyedRow → KeyedRow
row_at_place lebs level None linked = linked
row_at_place lebs level (Some place) linked = row_told lebs level (branch_at_place place)

-- the row of a node's children: that of its links, or what it tells
abbrev pub children_by : ℕ → Option NodePlace → Option (Told MediumSeen) → KeyedRow → KeyedRow
children_by level place None linked = linked
children_by level place (Some told) linked = row_at_place told.value level place linked

-- what a branch of a node leads to, before a row: a leaf where no level of nodes is left
abbrev pub child_before : List (List ℕ) → ℕ → Branch → KeyedRow → KeyedRow
child_before lebs zero branch rest = leaf_in (leaf_of branch) rest
child_before lebs (suc level) branch rest = node_in branch.key (Some (stretch_of branch)) (row_told lebs level branch) rest

-- whether a node is loaded: its links lead to its children
abbrev pub is_loaded : TableNode → Bool
is_loaded node = is_none node.beyond

-- whether each of these nodes is
abbrev pub are_loaded : List TableNode → Bool
are_loaded nodes = list_all is_loaded nodes

-- The rooms of LEBs into which a commit writes its nodes, one after another.
use Rattle.std.specs.Prelude.{◌≡◌, ℕ, zero, suc, ◌+◌, ◌-◌, ◌*◌, ◌/◌, ◌%◌, true, List, [], ◌∷◌, ◌++◌, get_or, Option, None, Some, option_map, slice_get}
use Rattle.ubifs_base.specs.Geometry.{index_node_len, index_nodes_per_leb}
use Rattle.ubifs_base.specs.declared.raw_geometry.RawGeometry.{RawGeometry}
use Rattle.index_media.specs.Clean.{is_clean_row}
use Rattle.index_media.specs.KeyedRow.{KeyedRow, no_more, leaf_in, node_in}
use Rattle.index_media.specs.PlacedRow.{Stretch}
use Rattle.media_sys.specs.declared.branch.Branch.{Branch}
use Rattle.table_nodes.specs.NodeView.{node_views}
use Rattle.node_table.specs.Pruning.{stretch_in}
use Rattle.index_cache.specs.Commit.{below_node, node_length, said_of}
use Rattle.index_cache.specs.Paged.{dirty_of, frozen_of}
use Rattle.index_cache.specs.declared.paged.PagedIndex.{PagedIndex}
use Rattle.index_commit.specs.declared.index_at.IndexAt.{IndexAt}
use Rattle.index_commit.specs.declared.index_at.IndexHead.{IndexHead}

-- where a node may be written
pub record Room : Type 0 where
  pub lnum : ℕ
  pub offs : ℕ

-- the n-th room of these LEBs: each has as many as there are nodes that fit it, every one as long as a full node
abbrev pub taken_room : RawGeometry → List ℕ → ℕ → Room
taken_room geo lebs n = record { lnum = get_or lebs (n / index_nodes_per_leb geo) 0; offs = n % index_nodes_per_leb geo * index_node_len geo }

-- the n-th room of one LEB, if they begin at an offset and have this length
abbrev pub room_in : ℕ → ℕ → ℕ → ℕ → Room
room_in lnum len from n = record { lnum = lnum; offs = from + n * len }

-- the room in which a place is
abbrev pub place_room : Stretch → Room
place_room place = record { lnum = place.lnum; offs = place.offs }

-- where the nodes of a row stand, each behind those below it, from left to right; a dirty one stands nowhere
abbrev pub rooms_of : KeyedRow → List (Option Room)
rooms_of no_more = []
rooms_of (leaf_in x rest) = rooms_of rest
rooms_of (node_in key place children rest) = rooms_of children ++ option_map place_room place ∷ rooms_of rest

-- the same once the dirty ones stand in the rooms of these LEBs, from the n-th on
abbrev pub all_rooms : RawGeometry → List ℕ → ℕ → List (Option Room) → List (Option Room)
all_rooms geo lebs n [] = []
all_rooms geo lebs n (None ∷ rooms) = Some (taken_room geo lebs n) ∷ all_rooms geo lebs (n + 1) rooms
all_rooms geo lebs n (Some room ∷ rooms) = Some room ∷ all_rooms geo lebs n rooms

-- where a node of the table stands, by its number; a dirty one stands nowhere
abbrev pub place_by_number : PagedIndex → ℕ → Option Stretch
place_by_number index number = stretch_in (slice_get (node_views index.table.nodes.items) number)

-- a node has its place in this room, and all nodes below it are clean
pub record IsInRoom (index : PagedIndex) (room : Room) (number : ℕ) : Type 0 where
  pub place : place_by_number index number ≡ Some (record { lnum = room.lnum; offs = room.offs; len = node_length (said_of index number) })
  pub clean : is_clean_row (below_node index number) ≡ true

-- the n-th of these nodes has its place in the n-th room
abbrev pub AreInRooms : (ℕ → Room) → PagedIndex → List ℕ → Type 0
AreInRooms room index numbers = (n number : ℕ) → slice_get numbers n ≡ Some number → IsInRoom index (room n) number

-- no number stands twice in a list
abbrev pub AreDistinctNumbers : List ℕ → Type 0
AreDistinctNumbers numbers = (n m number : ℕ) → slice_get numbers n ≡ Some number → slice_get numbers m ≡ Some number → n ≡ m

-- a number isn't in a list
abbrev pub IsNotAmong : List ℕ → ℕ → Type 0
IsNotAmong numbers number = (n : ℕ) → slice_get numbers n ≡ Some number → ⊥

-- so many bytes, rounded up to whole units
abbrev pub whole_units : RawGeometry → ℕ → ℕ
whole_units geo n = (n + geo.min_io - 1) / geo.min_io * geo.min_io

-- where the next node may go: behind a room, from the next unit on
abbrev pub head_behind : RawGeometry → Room → IndexHead
head_behind geo room = record { lnum = room.lnum; offs = whole_units geo (room.offs + index_node_len geo) }

-- the head of a commit of so many nodes: behind the last one's room; there is none without a node
abbrev pub last_head : RawGeometry → List ℕ → ℕ → Option IndexHead
last_head geo lebs zero = None
last_head geo lebs (suc n) = Some (head_behind geo (taken_room geo lebs n))

-- the branch leads to a node in this room
abbrev pub LeadsToRoom : Room → Option Branch → Type 0
LeadsToRoom room None = ⊥
LeadsToRoom room (Some branch) = (branch.lnum ≡ room.lnum) × (branch.offs ≡ room.offs)

-- Where an index stands of which so many nodes were written: the last one is the root, and the head is behind it. If no number of
-- a dirty node stood twice, each that was dirty has the next room
pub record IsIndexLaidOut (geo : RawGeometry) (lebs : List ℕ) (nodes : ℕ) (old new : PagedIndex) (at : IndexAt) : Type 0 where
  pub head : at.head ≡ last_head geo lebs nodes
  pub root : (n : ℕ) → nodes ≡ n + 1 → LeadsToRoom (taken_room geo lebs n) at.root
  pub rooms : AreDistinctNumbers (dirty_of old) → rooms_of (frozen_of new) ≡ all_rooms geo lebs 0 (rooms_of (frozen_of old))

-- the head after so many nodes were written, and that of before if there are none
abbrev pub head_after : RawGeometry → List ℕ → Option IndexHead → ℕ → Option IndexHead
head_after geo lebs before zero = before
head_after geo lebs before (suc n) = last_head geo lebs (suc n)

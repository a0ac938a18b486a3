-- What the LEBs hold in which a commit wrote nodes.
use Rattle.std.specs.Prelude.{◌≡◌, ◌⊎◌, ◌<◌, ◌≤◌, ℕ, zero, suc, ◌+◌, ◌-◌, ◌*◌, ◌%◌, List, [], ◌∷◌, ◌++◌, drop, length, map, take, Some, slice_get}
use Rattle.ubifs_base.specs.Gap.{gap_of}
use Rattle.ubifs_base.specs.Geometry.{index_node_len, index_nodes_per_leb}
use Rattle.ubifs_base.specs.declared.raw_geometry.RawGeometry.{RawGeometry}
use Rattle.index_media.specs.PlacedRow.{node_end}
use Rattle.media_sys.specs.Index.{Index}
use Rattle.media_sys.specs.SystemNode.{index, written}
use Rattle.node_table.specs.Placing.{without_number}
use Rattle.ubi_volume.specs.Frame.{IsSameLeb}
use Rattle.ubi_volume.specs.Volume.{VolumeState, Only, filled}
use Rattle.index_cache.specs.Commit.{node_length, said_of}
use Rattle.index_cache.specs.Paged.{dirty_of}
use Rattle.index_cache.specs.declared.paged.PagedIndex.{PagedIndex}
use Rattle.index_commit.specs.declared.index_at.IndexHead.{IndexHead}
use Rattle.index_commit.specs.Rooms.{whole_units}

-- an index node in a room of so many bytes, in no group: a gap to the next multiple of 8, and one to the end of the room
abbrev pub in_room : ℕ → ℕ → Index → List ℕ
in_room len sqnum node =
    let rest = len - node_length node in
    written sqnum 0 (index node) ++ gap_of (rest % 8) ++ gap_of (rest - rest % 8)

-- index nodes in one room after another, with the sequence numbers behind this one
abbrev pub in_rooms : ℕ → ℕ → List Index → List ℕ
in_rooms len sqnum [] = []
in_rooms len sqnum (node ∷ nodes) = in_room len (sqnum + 1) node ++ in_rooms len (sqnum + 1) nodes

-- where the last unit ends that so many rooms reach into
abbrev pub rooms_end : RawGeometry → ℕ → ℕ
rooms_end geo n = whole_units geo (n * index_node_len geo)

-- a LEB of these nodes alone: behind their rooms a gap to the end of the unit, and then it is unwritten
abbrev pub leb_of_nodes : RawGeometry → ℕ → List Index → List ℕ
leb_of_nodes geo sqnum nodes =
    filled geo.leb_size (in_rooms (index_node_len geo) sqnum nodes ++ gap_of (rooms_end geo (length nodes) - length nodes * index_node_len geo))

-- a LEB holds these nodes alone, and so does what a cut leaves of it
pub record HoldsNodes (geo : RawGeometry) (state : VolumeState) (lnum sqnum : ℕ) (nodes : List Index) : Type 0 where
  pub holds : state.holds lnum ≡ leb_of_nodes geo sqnum nodes
  pub written : state.written lnum ≡ rooms_end geo (length nodes)
  pub left : Only (state.holds lnum) (state.left_now lnum)

-- the LEB that these nodes were written to holds them; where there are none, it is as it was
abbrev pub IsLebOf : RawGeometry → VolumeState → VolumeState → ℕ → ℕ → List Index → Type 0
IsLebOf geo old new lnum sqnum [] = IsSameLeb old new lnum
IsLebOf geo old new lnum sqnum (node ∷ nodes) = HoldsNodes geo new lnum sqnum (node ∷ nodes)

-- of these nodes each LEB has those of its rooms, with the sequence numbers behind this one
abbrev pub AreLebsOf : RawGeometry → List ℕ → VolumeState → VolumeState → ℕ → List Index → Type 0
AreLebsOf geo lebs old new sqnum nodes =
    (k lnum : ℕ) → slice_get lebs k ≡ Some lnum
    → IsLebOf geo old new lnum (sqnum + k * index_nodes_per_leb geo) (take (index_nodes_per_leb geo) (drop (k * index_nodes_per_leb geo) nodes))

-- what a cut leaves of a LEB while these nodes are written to it: what it might have left before, or a LEB of these nodes alone
abbrev pub IsLebLeft : RawGeometry → VolumeState → ℕ → ℕ → List Index → List ℕ → Type 0
IsLebLeft geo old lnum sqnum [] c = old.left_now lnum c
IsLebLeft geo old lnum sqnum (node ∷ nodes) c = old.left_now lnum c ⊎ (c ≡ leb_of_nodes geo sqnum (node ∷ nodes))

-- the same of each LEB, with the nodes of its rooms
abbrev pub AreLebsLeft : RawGeometry → List ℕ → VolumeState → ℕ → List Index → (ℕ → List ℕ) → Type 0
AreLebsLeft geo lebs old sqnum nodes c =
    (k lnum : ℕ) → slice_get lebs k ≡ Some lnum
    → IsLebLeft geo old lnum (sqnum + k * index_nodes_per_leb geo) (take (index_nodes_per_leb geo) (drop (k * index_nodes_per_leb geo) nodes)) (c lnum)

-- the first of so many dirty nodes, each once, in the order in which they are written
abbrev pub firsts : ℕ → List ℕ → List ℕ
firsts zero numbers = []
firsts (suc n) [] = []
firsts (suc n) (number ∷ numbers) = number ∷ firsts n (without_number number (number ∷ numbers))

-- what nodes say as index nodes of the medium
abbrev pub said_by : PagedIndex → List ℕ → List Index
said_by paged numbers = map (λ number. said_of paged number) numbers

-- the bytes that index nodes take, each rounded up to 8
abbrev pub index_bytes : List Index → ℕ
index_bytes [] = 0
index_bytes (node ∷ nodes) = node_end (node_length node) + index_bytes nodes

-- what the nodes say that a commit wrote, if they are so many
abbrev pub nodes_written : PagedIndex → PagedIndex → ℕ → List Index
nodes_written old new n = said_by new (firsts n (dirty_of old))

-- So many nodes were written to a LEB, and these are still dirty: at least one was, and no more than it has rooms for. All are, or
-- it is full. The head is behind them
pub record IsNextLeb (geo : RawGeometry) (lnum nodes : ℕ) (dirty : List ℕ) (end : IndexHead) : Type 0 where
  pub some : 0 < nodes
  pub most : nodes ≤ index_nodes_per_leb geo
  pub all : (dirty ≡ []) ⊎ (nodes ≡ index_nodes_per_leb geo)
  pub head : end ≡ record { lnum = lnum; offs = rooms_end geo nodes }

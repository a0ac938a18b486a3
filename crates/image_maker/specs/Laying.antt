-- An image that is under way: LEBs that are written, and one that still takes nodes.
use Rattle.std.specs.Prelude.{◌≡◌, ◌≢◌, ℕ, ◌+◌, ◌-◌, ◌*◌, ◌^◌, ◌<◌, ◌≤◌, suc, List, [], ◌∷◌, ◌++◌, length, map, sum_by}
use Rattle.std.specs.List.{concat, flat_map, AllByRecursion}
use Rattle.ubifs_base.specs.declared.raw_geometry.RawGeometry.{RawGeometry}
use Rattle.ubifs_base.specs.Areas.{main_first, main_lebs}
use Rattle.ubifs_base.specs.Geometry.{leb_reserve}
use Rattle.ubi_volume.specs.Volume.{VolumeState, filled}
use Rattle.media_leaf.specs.LeafNode.{LeafNode, IsLeaf}
use Rattle.group_nodes.specs.Texts.{padded_leaf_bytes, leaf_text}
use Rattle.leaf_map.specs.Kept.{kept_at}
use Rattle.fs_model.specs.declared.inode.Entry.{Entry}
use Rattle.fs_model.specs.Directory.{entries_in}
use Rattle.fs_model.specs.Files.{Tree, Inodes}
use Rattle.image_maker.specs.Image.{to_unit, AreHeld}
use Rattle.image_maker.specs.Packed.{packed_after}
use Rattle.image_maker.specs.Places.{FitsLeb, numbered_leaves, numbered_text, placed_leaf, placed_rows, row_bytes}
use Rattle.image_maker.specs.declared.open_leb.OpenLeb.{OpenLeb}

-- the volume is of this geometry, and no call of it fails
pub record HasVolumeGeometry (raw : RawGeometry) (state : VolumeState) : Type 0 where
  pub leb_size : state.leb_size ≡ raw.leb_size
  pub min_io : state.min_io ≡ raw.min_io
  pub leb_cnt : state.leb_cnt ≡ raw.leb_cnt
  pub sure : state.sure

-- These leaves are laid: whole rows stand in LEBs, and the last in the buffer of the open LEB. Each LEB that is
-- written took more bytes than it has beside its reserve. The open LEB knows all places, the bytes of each row and the next number.
pub record AreLeafNodesLaid (raw : RawGeometry) (leaves : List LeafNode) (open_leb : OpenLeb) (holds : ℕ → List ℕ) : Type 0 where
  pub rows : List (List (ℕ × LeafNode))
  pub last : List (ℕ × LeafNode)
  pub all : flat_map (λ row. row) rows ++ last ≡ numbered_leaves 1 leaves
  pub each : AllByRecursion (FitsLeb raw) rows
  pub buffer : open_leb.bytes.items ≡ concat (map numbered_text last)
  pub place : open_leb.lnum ≡ main_first raw + length rows
  pub number : open_leb.sqnum ≡ suc (length leaves)
  pub held : AreHeld raw (map (map numbered_text) rows) holds
  pub taken : length rows * (raw.leb_size - leb_reserve raw) + length open_leb.bytes.items ≤ sum_by padded_leaf_bytes leaves
  pub leaves_are : open_leb.leaves.items ≡ map (λ x. (kept_at x).leaf) (placed_rows (main_first raw) (rows ++ last ∷ []))
  pub used : open_leb.used.items ≡ map row_bytes rows

-- A node went into the buffer, and its leaf behind the others.
pub record TakesLeaf (leaf : LeafNode) (before after : OpenLeb) : Type 0 where
  pub lnum : after.lnum ≡ before.lnum
  pub sqnum : after.sqnum ≡ before.sqnum + 1
  pub bytes : after.bytes.items ≡ before.bytes.items ++ leaf_text before.sqnum 0 leaf
  pub len : length after.bytes.items ≡ length before.bytes.items + padded_leaf_bytes leaf
  pub leaves : after.leaves.items ≡ before.leaves.items ++ (kept_at (placed_leaf before.lnum (length before.bytes.items) (before.sqnum, leaf))).leaf ∷ []
  pub used : after.used.items ≡ before.used.items

-- The buffer went into its LEB, with a gap up to the unit, and the next LEB is open. How many bytes nodes take of it is noted.
pub record IsLeafLebClosed (raw : RawGeometry) (before after : OpenLeb) (old new : ℕ → List ℕ) : Type 0 where
  pub lnum : after.lnum ≡ before.lnum + 1
  pub sqnum : after.sqnum ≡ before.sqnum
  pub bytes : after.bytes.items ≡ []
  pub leaves : after.leaves.items ≡ before.leaves.items
  pub used : after.used.items ≡ before.used.items ++ length before.bytes.items ∷ []
  pub holds : new before.lnum ≡ filled raw.leb_size (to_unit raw.min_io before.bytes.items)
  pub others : (n : ℕ) → n ≢ before.lnum → new n ≡ old n

-- These leaves can be laid next: they are nodes, and some were laid before. All together take few bytes, and a main LEB fewer than there are.
pub record AreLeavesReady (raw : RawGeometry) (next : List LeafNode) (open_leb : OpenLeb) (state : VolumeState) : Type 0 where
  pub nodes : AllByRecursion IsLeaf next
  pub done : List LeafNode
  pub laid : AreLeafNodesLaid raw done open_leb state.holds
  pub room : length (packed_after raw open_leb next) < main_lebs raw
  pub few : sum_by padded_leaf_bytes done + sum_by padded_leaf_bytes next ≤ 2 ^ 30
  pub fits : length open_leb.bytes.items ≤ raw.leb_size
  pub geometry : HasVolumeGeometry raw state

-- These leaves were laid behind those that were laid before, and LEBs took them as long as they fit; once there are any, the open LEB has some.
pub record LaysLeaves (raw : RawGeometry) (next : List LeafNode) (before : OpenLeb) (was : VolumeState) (after : OpenLeb) (state : VolumeState) : Type 0 where
  pub laid : (done : List LeafNode) → AreLeafNodesLaid raw done before was.holds → AreLeafNodesLaid raw (done ++ next) after state.holds
  pub packed : (leaves : List LeafNode) → packed_after raw after leaves ≡ packed_after raw before (next ++ leaves)
  pub some : 0 < length before.bytes.items + length next → 0 < length after.bytes.items
  pub fits : length after.bytes.items ≤ raw.leb_size
  pub geometry : HasVolumeGeometry raw state

-- Of all these leaves, those up to the ones that are still to come are laid.
pub record IsUnderWay (raw : RawGeometry) (all rest : List LeafNode) (before : OpenLeb) (was : VolumeState) (open_leb : OpenLeb) (state : VolumeState) : Type 0 where
  pub done : List LeafNode
  pub parts : done ++ rest ≡ all
  pub lays : LaysLeaves raw done before was open_leb state

-- the entries are those of a directory
abbrev pub AreEntriesListed : List Entry → Type 0
AreEntriesListed entries = (tree : Tree) × (dir : ℕ) × (entries_in tree dir ≡ entries)

-- the modes of inodes have the permission bits alone
abbrev pub HavePlainModes : Inodes → Type 0
HavePlainModes inodes = AllByRecursion (λ e. e.1.mode < 4096) inodes

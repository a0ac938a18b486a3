-- A new file system: which nodes are laid into a blank volume, and where.
use Rattle.std.specs.Prelude.{◌≡◌, ◌≢◌, ℕ, ◌+◌, ◌-◌, ◌*◌, ◌<◌, ◌≤◌, IsTrue, true, false, List, [], ◌∷◌, replicate}
use Rattle.ubifs_base.specs.Areas.{main_first, main_lebs}
use Rattle.ubifs_base.specs.declared.key.Key.TheVariants.{Ino}
use Rattle.ubifs_base.specs.declared.raw_geometry.RawGeometry.{RawGeometry}
use Rattle.ubi_volume.specs.Frame.{IsSameLeb}
use Rattle.ubi_volume.specs.Volume.{VolumeState, filled}
use Rattle.media_leaf.specs.LeafNode.{IsLeafNode, inode, written as leaf_bytes}
use Rattle.media_leaf.specs.declared.ino_node.InoNode.{InoNode}
use Rattle.media_lpt.specs.declared.lprop.Lprop.{Lprop}
use Rattle.media_sys.specs.Index.{Index}
use Rattle.media_sys.specs.SystemNode.{IsSystemNode, commit_start, index as index_said, written as system_bytes}
use Rattle.media_sys.specs.declared.branch.Branch.{Branch}
use Rattle.media_sys.specs.declared.master.Master.{Master}
use Rattle.media_sys.specs.declared.super_node.Super.{Super}
use Rattle.leb_scan.specs.Text.{is_blank}
use Rattle.index_tree.specs.declared.leaf.Leaf.{Leaf}
use Rattle.laid_main.specs.Props.{prop_behind}
use Rattle.lpt_area.specs.Written.{IsWritten, in_units, next_lpt}
use Rattle.lpt_area.specs.declared.lpt_at.LptAt.{LptAt}
use Rattle.small_areas.specs.Copies.{IsMasterLeb}
use Rattle.small_areas.specs.Masters.{IsLatest}
use Rattle.small_areas.specs.declared.placed_master.PlacedMaster.{PlacedMaster}
use Rattle.fs_model.specs.Files.{Tree}
use Rattle.fs_model.specs.declared.inode.Inode.{Inode}
use Rattle.fs_model.specs.declared.inode.Kind.TheVariants.{Dir}
use Rattle.leaf_map.specs.Kept.{Placed}
use Rattle.sound_image.specs.Image.{Image}
use Rattle.sound_image.specs.Sound.{SoundImage}
use Rattle.sound_image.specs.Summary.{is_clean, tree_of_image}
use Rattle.sound_image.specs.Superblock.{BeginsWithSuper}
use Rattle.volume_format.specs.Alone.{FitsUnits, HoldsAlone}

-- nothing is written in any LEB of the volume
pub record IsUnwritten (state : VolumeState) : Type 0 where
  pub blank : (lnum : ℕ) → lnum < state.leb_cnt → state.holds lnum ≡ filled state.leb_size []
  pub open_there : (lnum : ℕ) → lnum < state.leb_cnt → state.written lnum ≡ 0

-- the inode of the root directory, at this time
abbrev pub root_node : ℕ → InoNode
root_node now = record {
  ino = 1;
  size = 160;
  atime = now;
  ctime = now;
  mtime = now;
  nlink = 2;
  uid = 0;
  gid = 0;
  mode = 0o040755;
  flags = 0;
  xattr_cnt = 0;
  xattr_size = 0;
  xattr_names = 0;
  bytes = [];
}

-- it stands in the first main LEB, and the index's one node in the second
abbrev pub root_placed : RawGeometry → ℕ → Placed
root_placed geo now = record { node = inode (root_node now); sqnum = 1; group = 0; lnum = main_first geo; offs = 0; len = 160 }

abbrev pub root_leaf : RawGeometry → Leaf
root_leaf geo = record { key = Ino 1; lnum = main_first geo; offs = 0; len = 160 }

-- the index's one node says the leaf of the root directory
abbrev pub root_index : RawGeometry → Index
root_index geo = record { level = 0; branches = record { lnum = main_first geo; offs = 0; len = 160; key = Ino 1 } ∷ [] }

abbrev pub index_branch : RawGeometry → Branch
index_branch geo = record { lnum = main_first geo + 1; offs = 0; len = 48; key = Ino 1 }

-- the properties of the main LEBs: the others are empty
abbrev pub new_props : RawGeometry → List Lprop
new_props geo = prop_behind geo 160 false ∷ prop_behind geo 48 true ∷ replicate (main_lebs geo - 2) (record { free = geo.leb_size; dirty = 0; index = false })

-- the first master, over the tree of properties that was written there
abbrev pub new_master : RawGeometry → LptAt → Master
new_master geo at = record {
  highest_inum = 64;
  cmt_no = 0;
  flags = 2;
  log_lnum = 3;
  root_lnum = main_first geo + 1;
  root_offs = 0;
  root_len = 48;
  gc_lnum = main_first geo + 2;
  ihead_lnum = main_first geo + 1;
  ihead_offs = in_units geo.min_io 48;
  index_size = 48;
  total_free = main_lebs geo * geo.leb_size - (in_units geo.min_io 160 + in_units geo.min_io 48);
  total_dirty = (in_units geo.min_io 160 - 160) + (in_units geo.min_io 48 - 48);
  total_used = 160;
  total_dead = 0;
  total_dark = (main_lebs geo - 1) * in_units geo.min_io 4256;
  lpt_lnum = at.lnum;
  lpt_offs = at.offs;
  nhead_lnum = at.nhead_lnum;
  nhead_offs = at.nhead_offs;
  ltab_lnum = at.ltab_lnum;
  ltab_offs = at.ltab_offs;
  lsave_lnum = 0;
  lsave_offs = 0;
  lscan_lnum = main_first geo;
  empty_lebs = main_lebs geo - 2;
  idx_lebs = 1;
  leb_cnt = geo.leb_cnt;
}

-- the superblock of a volume of this geometry
abbrev pub new_super : RawGeometry → List ℕ → Super
new_super geo uuid = record {
  key_hash = 0;
  key_fmt = 0;
  flags = 0;
  min_io_size = geo.min_io;
  leb_size = geo.leb_size;
  leb_cnt = geo.leb_cnt;
  max_leb_cnt = geo.max_leb_cnt;
  max_bud_bytes = 8 * geo.leb_size;
  log_lebs = geo.log_lebs;
  lpt_lebs = geo.lpt_lebs;
  orph_lebs = geo.orph_lebs;
  jhead_cnt = 1;
  fanout = geo.fanout;
  lsave_cnt = geo.lsave_cnt;
  fmt_version = 4;
  default_compr = 0;
  rp_uid = 0;
  rp_gid = 0;
  rp_size = 0;
  time_gran = 1000000000;
  uuid = uuid;
  ro_compat_version = 0;
}

-- the root directory as callers see it
abbrev pub root_inode : ℕ → Inode
root_inode now = record { kind = Dir; mode = 0o755; nlink = 2; size = 160; uid = 0; gid = 0; atime = now; ctime = now; mtime = now; flags = 0; extra = [] }

-- a file system of the root directory alone, of which numbers up to 64 are reserved
abbrev pub new_tree : ℕ → Tree
new_tree now = record { inodes = (1, root_inode now) ∷ []; blocks = []; entries = []; highest = 64 }

-- The contents are a sound image of a new file system of this geometry, made at this time, whose superblock has this identifier. Its latest master is the first
-- one, over some tree of properties; all main LEBs but two are empty, and nothing is written in them. No bud holds a node.
pub record IsNewVolume (contents : ℕ → List ℕ) (geo : RawGeometry) (uuid : List ℕ) (now : ℕ) : Type 0 where
  pub superblock : BeginsWithSuper (contents 0) (new_super geo uuid)
  pub image : Image
  pub sound : SoundImage contents image
  pub geometry : image.geo ≡ geo
  pub clean : IsTrue (is_clean image)
  pub tree : tree_of_image image ≡ new_tree now
  pub at : LptAt
  pub master : image.latest.master ≡ new_master geo at
  pub props : image.props ≡ new_props geo
  pub empty : (lnum : ℕ) → main_first geo + 2 ≤ lnum → lnum < geo.leb_cnt → IsTrue (is_blank (contents lnum))

-- The root directory's inode stands alone in the first main LEB, its index in the second, and a tree of the properties in the properties area. All
-- else is as it was.
pub record IsMainLaid (geo : RawGeometry) (now : ℕ) (old new : VolumeState) (at : LptAt) : Type 0 where
  pub root : HoldsAlone geo new (main_first geo) (leaf_bytes 1 0 (inode (root_node now)))
  pub root_is : IsLeafNode (leaf_bytes 1 0 (inode (root_node now))) 1 0 (inode (root_node now))
  pub root_units : FitsUnits geo (leaf_bytes 1 0 (inode (root_node now))) 160
  pub index : HoldsAlone geo new (main_first geo + 1) (system_bytes 2 0 (index_said (root_index geo)))
  pub index_is : IsSystemNode (system_bytes 2 0 (index_said (root_index geo))) 2 0 (index_said (root_index geo))
  pub index_units : FitsUnits geo (system_bytes 2 0 (index_said (root_index geo))) 48
  pub tree : IsWritten geo 0 (new_props geo) new at
  pub others : (lnum : ℕ) → lnum ≢ main_first geo → lnum ≢ main_first geo + 1 → lnum ≢ next_lpt geo 0 → IsSameLeb old new lnum

-- The log holds its start alone, and the latest master is the first one, over this tree of properties. All else is as it was.
pub record AreAreasLaid (geo : RawGeometry) (old new : VolumeState) (at : LptAt) : Type 0 where
  pub log : HoldsAlone geo new 3 (system_bytes 3 0 (commit_start (record { cmt_no = 0 })))
  pub latest : PlacedMaster
  pub is_latest : IsLatest (new.holds 1) (new.holds 2) latest
  pub is_new : latest.master ≡ new_master geo at
  pub others : (lnum : ℕ) → lnum ≢ 3 → (IsMasterLeb lnum → ⊥) → IsSameLeb old new lnum

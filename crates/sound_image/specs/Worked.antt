-- The least image, by hand: two main LEBs, the root directory's inode in one, an index of one node in the other.
use Rattle.std.specs.Prelude.{◌≡◌, ℕ, ◌<◌, ◌≤◌, IsTrue, true, false, List, [], ◌∷◌, Some, get_or, take, drop, replicate}
use Rattle.ubifs_base.specs.Geometry.{plain_geometry}
use Rattle.ubifs_base.specs.NodeLaws.{IsBytes}
use Rattle.ubifs_base.specs.declared.journal_head.JournalHead.TheVariants.{Base}
use Rattle.ubifs_base.specs.declared.key.Key.TheVariants.{Ino}
use Rattle.ubifs_base.specs.declared.raw_geometry.RawGeometry.{RawGeometry}
use Rattle.media_leaf.specs.LeafNode.{inode}
use Rattle.media_leaf.specs.declared.ino_node.InoNode.{InoNode}
use Rattle.media_lpt.specs.declared.lprop.Lprop.{Lprop}
use Rattle.media_sys.specs.SystemNode.{commit_start, written}
use Rattle.media_sys.specs.declared.branch.Branch.{Branch}
use Rattle.media_sys.specs.declared.master.Master.{Master}
use Rattle.media_sys.specs.declared.super_node.Super.{Super}
use Rattle.small_areas.specs.Masters.{IsLatest}
use Rattle.small_areas.specs.declared.placed_master.PlacedMaster.{PlacedMaster}
use Rattle.leb_scan.specs.Text.{is_blank}
use Rattle.index_tree.specs.declared.leaf.Leaf.{Leaf}
use Rattle.index_media.specs.PlacedRow.{PlacedRow, ended, leaf_at, node_at, branch_to}
use Rattle.index_media.specs.Stored.{IsIndexNodeAt}
use Rattle.bud_log.specs.Log.{references_of}
use Rattle.bud_log.specs.LogText.{LogText}
use Rattle.leaf_map.specs.Kept.{Kept, Placed}
use Rattle.sound_image.specs.Image.{Image}
use Rattle.sound_image.specs.Index.{root_branch}
use Rattle.sound_image.specs.Laid.{BeginsAlone, IsFreshLog}
use Rattle.sound_image.specs.Leaves.{IsPlacedIn}
use Rattle.sound_image.specs.Log.{HasLog}
use Rattle.sound_image.specs.Properties.{HasProperties}
use Rattle.sound_image.specs.Superblock.{BeginsWithSuper}

-- LEBs of 16,384 bytes; the main LEBs are 10 and 11
abbrev pub least_geometry : RawGeometry
least_geometry = plain_geometry 16384 8 2 8

abbrev pub least_super : Super
least_super = record {
  key_hash = 0;
  key_fmt = 0;
  flags = 0;
  min_io_size = 8;
  leb_size = 16384;
  leb_cnt = 12;
  max_leb_cnt = 12;
  max_bud_bytes = 131072;
  log_lebs = 4;
  lpt_lebs = 2;
  orph_lebs = 1;
  jhead_cnt = 1;
  fanout = 8;
  lsave_cnt = 256;
  fmt_version = 4;
  default_compr = 0;
  rp_uid = 0;
  rp_gid = 0;
  rp_size = 0;
  time_gran = 1000000000;
  uuid = replicate 16 0;
  ro_compat_version = 0;
}

abbrev pub least_master : Master
least_master = record {
  highest_inum = 64;
  cmt_no = 0;
  flags = 2;
  log_lnum = 3;
  root_lnum = 11;
  root_offs = 0;
  root_len = 48;
  gc_lnum = 10;
  ihead_lnum = 11;
  ihead_offs = 48;
  index_size = 48;
  total_free = 32544;
  total_dirty = 16;
  total_used = 160;
  total_dead = 0;
  total_dark = 0;
  lpt_lnum = 7;
  lpt_offs = 15;
  nhead_lnum = 7;
  nhead_offs = 40;
  ltab_lnum = 7;
  ltab_offs = 26;
  lsave_lnum = 0;
  lsave_offs = 0;
  lscan_lnum = 7;
  empty_lebs = 0;
  idx_lebs = 1;
  leb_cnt = 12;
}

abbrev pub least_latest : PlacedMaster
least_latest = record { lnum = 1; offs = 0; sqnum = 4; master = least_master }

-- the inode of the root directory, at the start of LEB 10
abbrev pub sample_root_inode : InoNode
sample_root_inode = record {
  ino = 1;
  size = 160;
  atime = 0;
  ctime = 0;
  mtime = 0;
  nlink = 2;
  uid = 0;
  gid = 0;
  mode = 0o040755;
  flags = 0;
  xattr_cnt = 0;
  xattr_size = 0;
  xattr_names = 0;
  bytes = [];
}

abbrev pub sample_root_leaf : Leaf
sample_root_leaf = record { key = Ino 1; lnum = 10; offs = 0; len = 160 }

abbrev pub sample_root_placed : Placed
sample_root_placed = record { node = inode sample_root_inode; sqnum = 2; group = 0; lnum = 10; offs = 0; len = 160 }

abbrev pub root_kept : Kept
root_kept = record { leaf = sample_root_leaf; sqnum = 2; node = inode sample_root_inode }

-- the index's one node, at the start of LEB 11
abbrev pub least_branch : Branch
least_branch = root_branch least_master (Ino 1)

abbrev pub least_index : PlacedRow
least_index = node_at least_branch (leaf_at sample_root_leaf ended) ended

abbrev pub least_props : List Lprop
least_props = record { free = 16208; dirty = 16; index = false } ∷ record { free = 16336; dirty = 0; index = true } ∷ []

-- what such an image says, whatever the text of its log is
abbrev pub least_image : List LogText → Image
least_image log = record {
  geo = least_geometry;
  latest = least_latest;
  props = least_props;
  placed = least_index;
  log = log;
  buds = [];
  committed = record { leaf = sample_root_leaf; found = Some sample_root_placed } ∷ [];
  listed = [];
}

-- its latest master, if the root of the index stands behind the last LEB
abbrev pub misplaced_latest : PlacedMaster
misplaced_latest = record least_latest { master = record least_master { root_lnum = 13 } }

-- contents that begin as such a volume does: with this superblock and this latest master
pub record BeginsLeast (contents : ℕ → List ℕ) (node : Super) (latest : PlacedMaster) : Type 0 where
  pub bytes : (lnum : ℕ) → IsBytes (contents lnum)
  pub super : BeginsWithSuper (contents 0) node
  pub masters : IsLatest (contents 1) (contents 2) latest

-- and in which its index, its leaf and these properties stand, and the start of this commit in the log
pub record IsLeastWith (contents : ℕ → List ℕ) (props : List Lprop) (cmt_no : ℕ) : Type 0 where
  pub begins : BeginsLeast contents least_super least_latest
  pub log : IsFreshLog contents least_geometry 3 1 cmt_no
  pub properties : HasProperties contents least_geometry least_master props
  pub leaf : IsPlacedIn contents sample_root_placed
  pub index : IsIndexNodeAt contents least_branch (record { level = 0; branches = branch_to sample_root_leaf ∷ [] })

-- of each main LEB eight dirty bytes more are told than there are
abbrev pub dirtier_props : List Lprop
dirtier_props = record { free = 16208; dirty = 24; index = false } ∷ record { free = 16336; dirty = 8; index = true } ∷ []

-- no main LEB is marked as the index's
abbrev pub unmarked_props : List Lprop
unmarked_props = record { free = 16208; dirty = 16; index = false } ∷ record { free = 16336; dirty = 0; index = false } ∷ []

-- contents in which bytes 0xFF stand where the root of the tree of properties should
pub record LacksItsProperties (contents : ℕ → List ℕ) : Type 0 where
  pub begins : BeginsLeast contents least_super least_latest
  pub properties : take 11 (drop 15 (contents 7)) ≡ replicate 11 255

-- contents without its leaf: LEB 10 is erased
pub record LacksItsLeaf (contents : ℕ → List ℕ) : Type 0 where
  pub begins : BeginsLeast contents least_super least_latest
  pub log : IsFreshLog contents least_geometry 3 1 0
  pub properties : HasProperties contents least_geometry least_master least_props
  pub orphans : IsTrue (is_blank (contents 9))
  pub leaf : IsTrue (is_blank (contents 10))
  pub index : IsIndexNodeAt contents least_branch (record { level = 0; branches = branch_to sample_root_leaf ∷ [] })

-- contents like it, in which a byte is written among the free ones of LEB 10
pub record HasWrittenEnd (contents : ℕ → List ℕ) : Type 0 where
  pub like : IsLeastWith contents least_props 0
  pub orphans : IsTrue (is_blank (contents 9))
  pub erased : (place : ℕ) → 176 ≤ place → place < 200 → get_or (contents 10) place 255 ≡ 255
  pub byte : get_or (contents 10) 200 255 ≡ 0

-- contents like it, in which the start of a commit stands where orphans may
pub record HasStartForOrphans (contents : ℕ → List ℕ) : Type 0 where
  pub like : IsLeastWith contents least_props 0
  pub behind : IsTrue (is_blank (drop 160 (contents 10)))
  pub start : BeginsAlone (contents 9) (written 1 0 (commit_start (record { cmt_no = 0 })))

-- its leaf, if inode 1 is a file
abbrev pub file_placed : Placed
file_placed = record sample_root_placed { node = inode (record sample_root_inode { mode = 0o100755 }) }

-- contents like it, in which inode 1 is a file
pub record HasRootFile (contents : ℕ → List ℕ) : Type 0 where
  pub begins : BeginsLeast contents least_super least_latest
  pub log : IsFreshLog contents least_geometry 3 1 0
  pub properties : HasProperties contents least_geometry least_master least_props
  pub orphans : IsTrue (is_blank (contents 9))
  pub leaf : IsPlacedIn contents file_placed
  pub behind : IsTrue (is_blank (drop 160 (contents 10)))
  pub index : IsIndexNodeAt contents least_branch (record { level = 0; branches = branch_to sample_root_leaf ∷ [] })

-- a file's inode, one link of which is told
abbrev pub lone_inode : InoNode
lone_inode = record sample_root_inode { ino = 65; size = 0; nlink = 1; mode = 0o100644 }

abbrev pub lone_leaf : Leaf
lone_leaf = record { key = Ino 65; lnum = 10; offs = 160; len = 160 }

abbrev pub lone_placed : Placed
lone_placed = record { node = inode lone_inode; sqnum = 3; group = 0; lnum = 10; offs = 160; len = 160 }

-- an index of both inodes, its latest master, and its properties
abbrev pub lone_latest : PlacedMaster
lone_latest = record least_latest { master = record least_master { highest_inum = 65; root_len = 68 } }

abbrev pub lone_branch : Branch
lone_branch = root_branch lone_latest.master (Ino 1)

abbrev pub lone_index : PlacedRow
lone_index = node_at lone_branch (leaf_at sample_root_leaf (leaf_at lone_leaf ended)) ended

abbrev pub lone_props : List Lprop
lone_props = record { free = 16064; dirty = 0; index = false } ∷ record { free = 16312; dirty = 0; index = true } ∷ []

-- contents with a file beside the root, to which no name leads
pub record HasLoneFile (contents : ℕ → List ℕ) : Type 0 where
  pub begins : BeginsLeast contents least_super lone_latest
  pub log : IsFreshLog contents least_geometry 3 1 0
  pub properties : HasProperties contents least_geometry lone_latest.master lone_props
  pub orphans : IsTrue (is_blank (contents 9))
  pub root : IsPlacedIn contents sample_root_placed
  pub file : IsPlacedIn contents lone_placed
  pub behind : IsTrue (is_blank (drop 320 (contents 10)))
  pub index : IsIndexNodeAt contents lone_branch (record { level = 0; branches = branch_to sample_root_leaf ∷ branch_to lone_leaf ∷ [] })

-- contents whose log names LEB 10 as a bud, in which the start of a commit stands
pub record HasStartInBud (contents : ℕ → List ℕ) (log : List LogText) : Type 0 where
  pub begins : BeginsLeast contents least_super least_latest
  pub properties : HasProperties contents least_geometry least_master least_props
  pub index : IsIndexNodeAt contents least_branch (record { level = 0; branches = branch_to sample_root_leaf ∷ [] })
  pub has_log : HasLog contents least_geometry least_master log
  pub named : references_of log ≡ record { lnum = 10; offs = 0; head = Base } ∷ []
  pub start : BeginsAlone (contents 10) (written 1 0 (commit_start (record { cmt_no = 0 })))

-- contents in which its nodes stand, and nothing else is written
pub record IsLeastVolume (contents : ℕ → List ℕ) : Type 0 where
  pub bytes : (lnum : ℕ) → IsBytes (contents lnum)
  pub super : BeginsWithSuper (contents 0) least_super
  pub masters : IsLatest (contents 1) (contents 2) least_latest
  pub log : IsFreshLog contents least_geometry 3 1 0
  pub properties : HasProperties contents least_geometry least_master least_props
  pub orphans : IsTrue (is_blank (contents 9))
  pub leaf : IsPlacedIn contents sample_root_placed
  pub behind : IsTrue (is_blank (drop 160 (contents 10)))
  pub index : IsIndexNodeAt contents least_branch (record { level = 0; branches = branch_to sample_root_leaf ∷ [] })

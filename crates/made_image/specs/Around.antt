-- What is laid around leaves and an index of them that stand in the main LEBs, and which image comes of it.
use Rattle.std.specs.Prelude.{◌≡◌, ℕ, ◌+◌, ◌-◌, ◌<◌, nat_lt, if◌then◌else◌, IsTrue, List, [], ◌∷◌, get_or, length, map, sum, take}
use Rattle.std.specs.List.{AllByRecursion, sum_by}
use Rattle.ubifs_base.specs.Areas.{lpt_first, main_first, main_lebs}
use Rattle.ubifs_base.specs.declared.raw_geometry.RawGeometry.{RawGeometry}
use Rattle.ubi_volume.specs.Volume.{VolumeState, filled}
use Rattle.media_lpt.specs.declared.lprop.Lprop.{Lprop}
use Rattle.media_sys.specs.SystemNode.{commit_start, written}
use Rattle.media_sys.specs.declared.branch.Branch.{Branch}
use Rattle.media_sys.specs.declared.master.Master.{Master}
use Rattle.lpt_area.specs.Written.{IsTreeLeb, in_units}
use Rattle.lpt_area.specs.declared.lpt_at.LptAt.{LptAt}
use Rattle.small_areas.specs.Copies.{master_copy, room_of}
use Rattle.small_areas.specs.Masters.{IsLatest}
use Rattle.small_areas.specs.declared.placed_master.PlacedMaster.{PlacedMaster}
use Rattle.index_tree.specs.Distinct.{AreDistinct}
use Rattle.index_tree.specs.Shape.{contents as leaves_in}
use Rattle.index_media.specs.PlacedRow.{PlacedRow, all_nodes, are_disjoint, branch_to, branches_of, plain}
use Rattle.index_media.specs.Stored.{IsStoredIndex}
use Rattle.leaf_map.specs.Kept.{Placed, kept_at, shown}
use Rattle.leaf_map.specs.Parts.{is_shown}
use Rattle.leaf_map.specs.Recovered.{highest_key}
use Rattle.leaf_map.specs.Shown.{tree_of}
use Rattle.sound_image.specs.Laid.{BeginsAlone, IsPlainLeaf}
use Rattle.sound_image.specs.Leaves.{IsPlacedIn}
use Rattle.sound_image.specs.Superblock.{BeginsWithSuper}
use Rattle.laid_image.specs.Laid.{IsLaidImage, ShowTree, leaf_of_placed}
use Rattle.laid_main.specs.Filling.{AreFilled, TakesOfLebs}
use Rattle.laid_main.specs.Props.{AreBytesTaken, laid_props}
use Rattle.volume_format.specs.Format.{new_super}
use Rattle.made_image.specs.declared.filled_main.FilledMain.{FilledMain}

-- in less than so many bytes no node of data fits; less than so many may be too few for the next node (`dead_wm` and `dark_wm` of Linux fs/ubifs)
abbrev pub dead_mark : RawGeometry → ℕ
dead_mark geo = in_units geo.min_io 56

abbrev pub dark_mark : RawGeometry → ℕ
dark_mark geo = in_units geo.min_io 4256

-- the dead bytes of a LEB that isn't the index's: all that is left of it, if no node fits there
abbrev pub dead_in : RawGeometry → Lprop → ℕ
dead_in geo prop = if prop.index then 0 else (if nat_lt (prop.free + prop.dirty) (dead_mark geo) then prop.free + prop.dirty else 0)

-- the dark bytes of so many that are left (`ubifs_calc_dark` of Linux fs/ubifs/lprops.c)
abbrev pub dark_among : RawGeometry → ℕ → ℕ
dark_among geo space =
    if nat_lt space (dead_mark geo) then 0
    else if nat_lt space (dark_mark geo) then space
    else if nat_lt (space - dark_mark geo) 56 then space - 56
    else dark_mark geo

-- the dark bytes of a LEB that isn't the index's
abbrev pub dark_in : RawGeometry → Lprop → ℕ
dark_in geo prop = if prop.index then 0 else dark_among geo (prop.free + prop.dirty)

-- of main LEBs so many bytes are taken, words of each that are some and at most the LEB; there is an index, and one LEB more
pub record AreMainFilled (geo : RawGeometry) (main : FilledMain) : Type 0 where
  pub leaves : AreBytesTaken geo main.leaves.items
  pub index : AreBytesTaken geo main.index.items
  pub some : 0 < length main.index.items
  pub room : length main.leaves.items + length main.index.items < main_lebs geo

-- the properties of these main LEBs
abbrev pub props_over : RawGeometry → FilledMain → List Lprop
props_over geo main = laid_props geo main.leaves.items main.index.items

-- the number of main LEBs of which bytes are taken
abbrev pub taken_main_lebs : FilledMain → ℕ
taken_main_lebs main = length main.leaves.items + length main.index.items

-- The first master over main LEBs that were filled so, and over the tree of their properties. The sums are true; the first empty main LEB is the
-- collector's, and index nodes go on behind the last one.
abbrev pub made_master : RawGeometry → FilledMain → LptAt → Master
made_master geo main at = record {
  highest_inum = main.highest;
  cmt_no = 0;
  flags = 2;
  log_lnum = 3;
  root_lnum = main.root.lnum;
  root_offs = main.root.offs;
  root_len = main.root.len;
  gc_lnum = main_first geo + taken_main_lebs main;
  ihead_lnum = main_first geo + taken_main_lebs main - 1;
  ihead_offs = in_units geo.min_io (get_or main.index.items (length main.index.items - 1) 0);
  index_size = sum main.index.items;
  total_free = sum_by (λ prop. prop.free) (props_over geo main);
  total_dirty = sum_by (λ prop. prop.dirty) (props_over geo main);
  total_used = sum main.leaves.items;
  total_dead = sum_by (dead_in geo) (props_over geo main);
  total_dark = sum_by (dark_in geo) (props_over geo main);
  lpt_lnum = at.lnum;
  lpt_offs = at.offs;
  nhead_lnum = at.nhead_lnum;
  nhead_offs = at.nhead_offs;
  ltab_lnum = at.ltab_lnum;
  ltab_offs = at.ltab_offs;
  lsave_lnum = 0;
  lsave_offs = 0;
  lscan_lnum = main_first geo;
  empty_lebs = main_lebs geo - taken_main_lebs main;
  idx_lebs = length main.index.items;
  leb_cnt = geo.leb_cnt;
}

-- nothing is written in this LEB
pub record IsUnwrittenLeb (state : VolumeState) (lnum : ℕ) : Type 0 where
  pub blank : state.holds lnum ≡ filled state.leb_size []
  pub open_there : state.written lnum ≡ 0

-- The tree of the properties of these main LEBs stands in the first LEB of its area, and this is the master over it.
pub record HasTreeLaid (geo : RawGeometry) (main : FilledMain) (contents : ℕ → List ℕ) (master : Master) : Type 0 where
  pub at : LptAt
  pub is : master ≡ made_master geo main at
  pub tree : IsTreeLeb geo (lpt_first geo) (props_over geo main) (contents (lpt_first geo)) at

-- The first LEB of the log holds the start of commit 0 alone, with the number behind this one. LEBs 1 and 2 hold a copy of the master each, with the next two.
pub record AreLogAndMasters (geo : RawGeometry) (sqnum : ℕ) (master : Master) (contents : ℕ → List ℕ) : Type 0 where
  pub log : BeginsAlone (contents 3) (written (sqnum + 1) 0 (commit_start (record { cmt_no = 0 })))
  pub first : contents 1 ≡ filled geo.leb_size (master_copy (room_of geo.min_io) (sqnum + 2) master)
  pub second : contents 2 ≡ filled geo.leb_size (master_copy (room_of geo.min_io) (sqnum + 3) master)
  pub latest : PlacedMaster
  pub is_latest : IsLatest (contents 1) (contents 2) latest
  pub is_fresh : latest.master ≡ master

-- a node stands whole at its place, says nothing of attributes, and shows an inode of a known kind, a block or a name
pub record StandsPlain (contents : ℕ → List ℕ) (x : Placed) : Type 0 where
  pub stands : IsPlacedIn contents x
  pub plain : IsPlainLeaf x.node
  pub shows : IsTrue (is_shown (shown x.node))

-- Leaf nodes stand in the first main LEBs, no two of them overlap, and they show a tree; behind them stands an index of their leaves, whose root has the key of
-- its first child. Both take so many bytes of each LEB, and behind the units of these nothing is written.
pub record HoldsIndexed (geo : RawGeometry) (contents : ℕ → List ℕ) (main : FilledMain) (placed : PlacedRow) (nodes : List Placed) : Type 0 where
  pub leaves : TakesOfLebs (main_first geo) main.leaves.items (map branch_to (map leaf_of_placed nodes))
  pub leaves_filled : AreFilled geo contents (main_first geo) main.leaves.items
  pub nodes_taken : TakesOfLebs (main_first geo + length main.leaves.items) main.index.items (all_nodes placed)
  pub index_filled : AreFilled geo contents (main_first geo + length main.leaves.items) main.index.items
  pub index : IsStoredIndex contents geo.fanout main.root placed
  pub key : map (λ (branch : Branch). branch.key) (take 1 (branches_of index.children)) ≡ main.root.key ∷ []
  pub said : leaves_in (plain placed) ≡ map leaf_of_placed nodes
  pub stand : AllByRecursion (StandsPlain contents) nodes
  pub distinct : AreDistinct (map leaf_of_placed nodes)
  pub disjoint : IsTrue (are_disjoint (map branch_to (map leaf_of_placed nodes)))
  pub tree : ShowTree (map kept_at nodes) (tree_of (map kept_at nodes) (highest_key main.highest (map (λ x. (leaf_of_placed x).key) nodes)))

-- The contents are an image that was laid around these leaves and this index. Its superblock is that of a new volume with this identifier. LEBs 1 and 2 have
-- the same master, the first one over these main LEBs and over the tree of their properties.
pub record IsMadeAround (contents : ℕ → List ℕ) (geo : RawGeometry) (uuid : List ℕ) (sqnum : ℕ) (main : FilledMain) (placed : PlacedRow) (nodes : List Placed) : Type 0 where
  pub superblock : BeginsWithSuper (contents 0) (new_super geo uuid)
  pub at : LptAt
  pub props : IsTreeLeb geo (lpt_first geo) (props_over geo main) (contents (lpt_first geo)) at
  pub areas : AreLogAndMasters geo sqnum (made_master geo main at) contents
  pub laid : IsLaidImage contents geo areas.latest (props_over geo main) placed nodes

-- Images that were laid without a journal: each leaf at a node of its own, a log that holds the start of a commit alone, no orphans.
use Rattle.std.specs.Prelude.{◌≡◌, ◌≢◌, ℕ, ◌-◌, ◌<◌, ◌^◌, IsTrue, List, [], Some, drop, map}
use Rattle.std.specs.List.{AllByRecursion, list_all}
use Rattle.ubifs_base.specs.Areas.{orph_first}
use Rattle.ubifs_base.specs.NodeLaws.{IsBytes}
use Rattle.ubifs_base.specs.declared.raw_geometry.RawGeometry.{RawGeometry}
use Rattle.media_lpt.specs.declared.lprop.Lprop.{Lprop}
use Rattle.media_sys.specs.declared.master.Master.{Master}
use Rattle.small_areas.specs.Orphans.{AreOrphans}
use Rattle.small_areas.specs.declared.placed_master.PlacedMaster.{PlacedMaster}
use Rattle.leb_scan.specs.Text.{is_blank}
use Rattle.index_tree.specs.Distinct.{AreDistinct}
use Rattle.index_tree.specs.Shape.{contents as leaves_in}
use Rattle.index_tree.specs.declared.leaf.Leaf.{Leaf}
use Rattle.index_media.specs.PlacedRow.{PlacedRow, are_disjoint, branch_to, plain}
use Rattle.bud_log.specs.LogText.{LogText}
use Rattle.fs_model.specs.Files.{Tree}
use Rattle.fs_model.specs.Proper.{has_kind}
use Rattle.fs_model.specs.declared.inode.Kind.TheVariants.{Dir}
use Rattle.leaf_map.specs.Kept.{Kept, Placed, kept_at, shown, shown_by}
use Rattle.leaf_map.specs.LeafMap.{are_apart}
use Rattle.leaf_map.specs.Parts.{is_shown}
use Rattle.leaf_map.specs.Recovered.{highest_key}
use Rattle.leaf_map.specs.Shown.{tree_of}
use Rattle.sound_image.specs.Image.{Image}
use Rattle.sound_image.specs.Index.{HasIndex}
use Rattle.sound_image.specs.Laid.{IsFreshLog, IsPlainLeaf}
use Rattle.sound_image.specs.Leaves.{IsPlacedIn}
use Rattle.sound_image.specs.Masters.{HasMasters}
use Rattle.sound_image.specs.OrphanLists.{HasOrphanLists}
use Rattle.sound_image.specs.Properties.{HasProperties, is_unmarked, prop_of}
use Rattle.sound_image.specs.Space.{HasSums}
use Rattle.sound_image.specs.Superblock.{HasSuperblock}
use Rattle.sound_image.specs.Tree.{HasLinks, is_in_place, is_named_well}

-- the leaf that a node becomes where it stands
abbrev pub leaf_of_placed : Placed → Leaf
leaf_of_placed x = (kept_at x).leaf

-- the tree that nodes show, under a master that says this highest inode number
abbrev pub tree_of_nodes : Master → List Placed → Tree
tree_of_nodes master nodes = tree_of (map kept_at nodes) (highest_key master.highest_inum (map (λ x. (leaf_of_placed x).key) nodes))

-- a leaf node of the grammar stands whole at its place, in a main LEB that isn't marked as the index's; it says nothing of attributes, and shows an inode of a
-- known kind, a block or a name
pub record IsLaidNode (contents : ℕ → List ℕ) (geo : RawGeometry) (props : List Lprop) (x : Placed) : Type 0 where
  pub stands : IsPlacedIn contents x
  pub unmarked : IsTrue (is_unmarked geo props x.lnum)
  pub plain : IsPlainLeaf x.node
  pub shows : IsTrue (is_shown (shown x.node))

-- No two of these leaves show the same. Inode 1 is a directory of the tree that they show; each entry stands in a directory, and its inode is there, of its
-- kind, and not the root; each directory but the root has one entry and is reached from the root; each other inode has as many links as names, and one at least.
pub record ShowTree (kept : List Kept) (tree : Tree) : Type 0 where
  pub apart : IsTrue (are_apart kept)
  pub root : IsTrue (has_kind tree 1 Dir)
  pub entries : IsTrue (list_all (λ x. is_named_well tree (shown_by x)) kept)
  pub dirs : IsTrue (list_all (is_in_place tree) tree.inodes)
  pub links : HasLinks tree

-- behind the free bytes of each main LEB nothing is written, unless all its bytes are free or index nodes go on there
abbrev pub AreEndsBlank : (ℕ → List ℕ) → RawGeometry → Master → List Lprop → Type 0
AreEndsBlank contents geo master props =
    (lnum : ℕ) (prop : Lprop) → prop_of geo props lnum ≡ Some prop → 0 < prop.free → prop.free < geo.leb_size → lnum ≢ master.ihead_lnum
    → IsTrue (is_blank (drop (geo.leb_size - prop.free) (contents lnum)))

-- the contents are those of a volume in which a superblock, masters, properties, an index and these leaf nodes were laid, and whose log holds the start of the
-- master's commit alone; in the orphan area no number stands
pub record IsLaidImage (contents : ℕ → List ℕ) (geo : RawGeometry) (latest : PlacedMaster) (props : List Lprop) (placed : PlacedRow) (nodes : List Placed) : Type 0 where
  pub bytes : (lnum : ℕ) → IsBytes (contents lnum)
  pub superblock : HasSuperblock contents geo
  pub masters : HasMasters contents geo latest
  pub properties : HasProperties contents geo latest.master props
  pub index : HasIndex contents geo latest.master props placed
  pub sqnum : ℕ
  pub number : sqnum < 2 ^ 64
  pub commit : latest.master.cmt_no < 2 ^ 64
  pub log : IsFreshLog contents geo latest.master.log_lnum sqnum latest.master.cmt_no
  pub leaves : leaves_in (plain placed) ≡ map leaf_of_placed nodes
  pub distinct : AreDistinct (map leaf_of_placed nodes)
  pub disjoint : IsTrue (are_disjoint (map branch_to (map leaf_of_placed nodes)))
  pub stand : AllByRecursion (IsLaidNode contents geo props) nodes
  pub sums : HasSums geo props placed
  pub ends : AreEndsBlank contents geo latest.master props
  pub orphans : HasOrphanLists contents geo
  pub listed : AreOrphans contents (orph_first geo) geo.orph_lebs []
  pub tree : ShowTree (map kept_at nodes) (tree_of_nodes latest.master nodes)

-- what such an image says, where the text of its log is this
abbrev pub laid_image : RawGeometry → PlacedMaster → List Lprop → PlacedRow → List LogText → List Placed → Image
laid_image geo latest props placed log nodes = record {
  geo = geo;
  latest = latest;
  props = props;
  placed = placed;
  log = log;
  buds = [];
  committed = map (λ x. record { leaf = leaf_of_placed x; found = Some x }) nodes;
  listed = [];
}

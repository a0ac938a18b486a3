-- A whole image of a tree of files.
use Rattle.std.specs.Prelude.{◌≡◌, ⊤, ℕ, ◌+◌, ◌-◌, ◌*◌, ◌<◌, ◌≤◌, false, IsTrue, List, [], length}
use Rattle.std.specs.List.{list_all}
use Rattle.ubifs_base.specs.Areas.{main_first, main_lebs}
use Rattle.ubifs_base.specs.Geometry.{leb_reserve}
use Rattle.ubifs_base.specs.declared.raw_geometry.RawGeometry.{RawGeometry}
use Rattle.ubi_volume.specs.Volume.{VolumeState, filled}
use Rattle.small_areas.specs.Copies.{IsMasterLeb}
use Rattle.index_tree.specs.Shape.{shape_weight}
use Rattle.index_media.specs.PlacedRow.{PlacedRow, plain}
use Rattle.fs_model.specs.declared.space.Space.{Space}
use Rattle.fs_model.specs.Files.{Tree}
use Rattle.fs_model.specs.Orphan.{nameless}
use Rattle.fs_model.specs.Cover.{index_lebs, tree_bytes}
use Rattle.leaf_map.specs.Kept.{Placed}
use Rattle.sound_image.specs.Image.{Image}
use Rattle.sound_image.specs.Sound.{SoundImage}
use Rattle.sound_image.specs.Summary.{is_clean, space_of_image, tree_of_image}
use Rattle.tree_nodes.specs.Stored.{AreNodesOfTree, stored_tree}
use Rattle.image_maker.specs.Leaves.{live_leaves}
use Rattle.image_maker.specs.Packed.{packed_leaves}
use Rattle.plain_backing.specs.Covering.{leaf_count}
use Rattle.tree_space.specs.Laid.{laid_weight}
use Rattle.laid_tree.specs.Standing.{is_plain}
use Rattle.laid_index.specs.Packing.{index_used}
use Rattle.made_image.specs.Around.{AreMainFilled, HoldsIndexed, IsMadeAround}
use Rattle.made_image.specs.declared.filled_main.FilledMain.{FilledMain}
use Rattle.whole_image.specs.declared.make_fault.MakeFault.{MakeFault}
use Rattle.whole_image.specs.declared.make_fault.MakeFault.TheVariants.{Memory, Unreserved, Nameless, Attribute, Full, Crowded}

-- What a mount counts of an image of this tree. Its index has full nodes, but for the last of a level. Its leaves take as few LEBs as they can in their order, and all other LEBs are empty.
pub record IsMadeSpace (geo : RawGeometry) (tree : Tree) (space : Space) : Type 0 where
  pub index : space.index ≡ length (index_used geo (length (live_leaves tree)))
  pub empty : space.empty + length (packed_leaves geo.leb_size 0 (live_leaves tree)) + space.index ≡ main_lebs geo
  pub weight : space.weight ≡ laid_weight geo tree

-- The contents are the live nodes of this tree, an index of them, and what is laid around both, with this identifier. That is a sound image of this geometry. No
-- bud holds a node, the tree is the one that is stored of this one, and a mount counts what `IsMadeSpace` says.
pub record IsMadeImage (contents : ℕ → List ℕ) (geo : RawGeometry) (uuid : List ℕ) (tree : Tree) : Type 0 where
  pub main : FilledMain
  pub placed : PlacedRow
  pub nodes : List Placed
  pub last : ℕ
  pub are : AreNodesOfTree tree nodes
  pub around : IsMadeAround contents geo uuid last main placed nodes
  pub image : Image
  pub sound : SoundImage contents image
  pub geometry : image.geo ≡ geo
  pub clean : IsTrue (is_clean image)
  pub files : tree_of_image image ≡ stored_tree tree
  pub space : IsMadeSpace geo tree (space_of_image image)

-- the bytes of main LEBs that are for leaves: of all but six, what is behind a reserve
abbrev pub most_leaf_bytes : RawGeometry → ℕ
most_leaf_bytes geo = (main_lebs geo - 6) * (geo.leb_size - leb_reserve geo)

-- numbers up to 64 are used, each inode has a name, and none is an attribute's
pub record IsPlainTree (tree : Tree) : Type 0 where
  pub reserved : 64 ≤ tree.highest
  pub named : nameless tree ≡ []
  pub plain : IsTrue (list_all is_plain tree.inodes)

-- the tree is such a one, and its leaves have room
pub record CanBeLaid (geo : RawGeometry) (tree : Tree) : Type 0 where
  pub plain_tree : IsPlainTree tree
  pub fits : tree_bytes tree ≤ most_leaf_bytes geo

-- how many main LEBs an image of the tree takes with none to spare: those of its leaves, those of an index of them, and one that stays empty
abbrev pub packed_lebs : RawGeometry → Tree → ℕ
packed_lebs geo tree = length (packed_leaves geo.leb_size 0 (live_leaves tree)) + length (index_used geo (length (live_leaves tree))) + 1

-- a volume like this one, of just as many main LEBs as an image of the tree takes; it may still have as many LEBs later
abbrev pub packed_geometry : RawGeometry → Tree → RawGeometry
packed_geometry geo tree = record geo { leb_cnt = main_first geo + packed_lebs geo tree }

-- An index of the tree's leaves takes so many LEBs. That is more than the main LEBs that are left behind the leaves, which take LEBs as long as they fit, but for one that stays empty.
pub record IsCrowded (geo : RawGeometry) (tree : Tree) (need room : ℕ) : Type 0 where
  pub need_is : need ≡ length (index_used geo (length (live_leaves tree)))
  pub room_is : room + 1 + length (packed_leaves geo.leb_size 0 (live_leaves tree)) ≡ main_lebs geo
  pub more : room < need

-- The leaves have room beside three times the LEBs that an index of this weight takes, and six more, as admission tests. The weight has a node for each `fanout` leaves.
pub record IsCoveredTree (geo : RawGeometry) (tree : Tree) : Type 0 where
  pub weight : ℕ
  pub weighed : leaf_count tree ≤ geo.fanout * weight
  pub fits : tree_bytes tree ≤ (main_lebs geo - 3 * index_lebs geo weight - 6) * (geo.leb_size - leb_reserve geo)

-- why no image of a tree is made; want of memory is free
abbrev pub IsImageRefused : RawGeometry → Tree → MakeFault → Type 0
IsImageRefused geo tree Memory = ⊤
IsImageRefused geo tree (Unreserved highest) = (highest ≡ tree.highest) × (highest < 64)
IsImageRefused geo tree (Nameless count) = (count ≡ length (nameless tree)) × (0 < count)
IsImageRefused geo tree Attribute = list_all is_plain tree.inodes ≡ false
IsImageRefused geo tree (Full need room) = (need ≡ tree_bytes tree) × (room ≡ most_leaf_bytes geo) × (room < need)
IsImageRefused geo tree (Crowded need room) = IsCrowded geo tree need room

-- why the main LEBs don't take a tree whose leaves they take
abbrev pub IsOutOfLebs : RawGeometry → Tree → MakeFault → Type 0
IsOutOfLebs geo tree Memory = ⊤
IsOutOfLebs geo tree (Unreserved highest) = ⊥
IsOutOfLebs geo tree (Nameless count) = ⊥
IsOutOfLebs geo tree Attribute = ⊥
IsOutOfLebs geo tree (Full need room) = ⊥
IsOutOfLebs geo tree (Crowded need room) = IsCrowded geo tree need room

-- why no image of a tree is made that the main LEBs take
abbrev pub IsNotPlain : Tree → MakeFault → Type 0
IsNotPlain tree Memory = ⊤
IsNotPlain tree (Unreserved highest) = (highest ≡ tree.highest) × (highest < 64)
IsNotPlain tree (Nameless count) = (count ≡ length (nameless tree)) × (0 < count)
IsNotPlain tree Attribute = list_all is_plain tree.inodes ≡ false
IsNotPlain tree (Full need room) = ⊥
IsNotPlain tree (Crowded need room) = ⊥

-- The leaves of the tree and an index of them stand in the main LEBs, as this tells, and in front of these nothing is written. Both take as few LEBs as they can in
-- their order, and the index weighs what one of full nodes does.
pub record HoldsTree (geo : RawGeometry) (state : VolumeState) (tree : Tree) (main : FilledMain) : Type 0 where
  pub placed : PlacedRow
  pub nodes : List Placed
  pub indexed : HoldsIndexed geo state.holds main placed nodes
  pub taken : AreMainFilled geo main
  pub are : AreNodesOfTree tree nodes
  pub leaves_packed : length main.leaves.items ≡ length (packed_leaves geo.leb_size 0 (live_leaves tree))
  pub index_packed : length main.index.items ≡ length (index_used geo (length (live_leaves tree)))
  pub weight : shape_weight geo.fanout (plain placed) ≡ laid_weight geo tree
  pub highest : main.highest ≡ tree.highest
  pub blank : (lnum : ℕ) → lnum < main_first geo → state.holds lnum ≡ filled state.leb_size []
  pub open_there : (lnum : ℕ) → IsMasterLeb lnum → state.written lnum ≡ 0

-- The rule on leaves (`dbg_walk_index` with `check_leaf` of Linux fs/ubifs).
use Rattle.std.specs.Prelude.{◌≡◌, ℕ, ⊤, ◌+◌, ◌≤◌, IsTrue, List, [], ◌∷◌, ◌++◌, All, Option, Some, None, length, take, drop, map}
use Rattle.ubifs_base.specs.Areas.{orph_first}
use Rattle.ubifs_base.specs.declared.raw_geometry.RawGeometry.{RawGeometry}
use Rattle.media_leaf.specs.LeafNode.{IsLeafNode}
use Rattle.media_lpt.specs.declared.lprop.Lprop.{Lprop}
use Rattle.index_tree.specs.Shape.{contents as leaves_in}
use Rattle.index_tree.specs.declared.leaf.Leaf.{Leaf}
use Rattle.index_media.specs.PlacedRow.{plain, branch_to, are_disjoint}
use Rattle.small_areas.specs.Orphans.{AreOrphans}
use Rattle.group_nodes.specs.Nodes.{leaf_key}
use Rattle.leaf_map.specs.Kept.{Placed}
use Rattle.leaf_map.specs.Lost.{empty_names, missing_leaves}
use Rattle.leaf_map.specs.Parts.{Committed, Parts}
use Rattle.leaf_map.specs.Recovered.{recovered_of}
use Rattle.sound_image.specs.Frames.{IsKnownAt}
use Rattle.sound_image.specs.Image.{Image, parts_of}
use Rattle.sound_image.specs.Properties.{is_unmarked}

-- a leaf node stands where it is placed, whole
pub record IsPlacedIn (contents : ℕ → List ℕ) (node : Placed) : Type 0 where
  pub room : node.offs + node.len ≤ length (contents node.lnum)
  pub is : IsLeafNode (take node.len (drop node.offs (contents node.lnum))) node.sqnum node.group node.node

-- it is placed where a leaf says, and is as long
pub record IsPlaceOf (leaf : Leaf) (node : Placed) : Type 0 where
  pub lnum : node.lnum ≡ leaf.lnum
  pub offs : node.offs ≡ leaf.offs
  pub len : node.len ≡ leaf.len

-- what was found at a leaf's place is what stands there
abbrev pub IsFoundAt : (ℕ → List ℕ) → Leaf → Option Placed → Type 0
IsFoundAt contents leaf (Some node) = IsPlaceOf leaf node × IsPlacedIn contents node
IsFoundAt contents leaf None = (node : Placed) → IsPlaceOf leaf node → IsPlacedIn contents node → ⊥

-- the leaves of the committed index, each with the node that stands at its place, if one does
abbrev pub AreCommitted : (ℕ → List ℕ) → List Leaf → List Committed → Type 0
AreCommitted contents [] [] = ⊤
AreCommitted contents [] (x ∷ committed) = ⊥
AreCommitted contents (leaf ∷ leaves) [] = ⊥
AreCommitted contents (leaf ∷ leaves) (x ∷ committed) = (x.leaf ≡ leaf) × IsFoundAt contents leaf x.found × AreCommitted contents leaves committed

-- a leaf's place has an intact node of its key and length, which needs no unknown feature
pub record HasItsNode (contents : ℕ → List ℕ) (leaf : Leaf) : Type 0 where
  pub node : Placed
  pub placed : IsPlaceOf leaf node
  pub stands : IsPlacedIn contents node
  pub key : leaf_key node.node ≡ Some leaf.key
  pub known : IsKnownAt (contents leaf.lnum) leaf.offs

-- and the place is in a main LEB that isn't marked as the index's
abbrev pub IsSoundLeaf : (ℕ → List ℕ) → RawGeometry → List Lprop → Leaf → Type 0
IsSoundLeaf contents geo props leaf = HasItsNode contents leaf × IsTrue (is_unmarked geo props leaf.lnum)

-- the leaves of the index after recovery
abbrev pub leaves_recovered : Parts → List Leaf
leaves_recovered parts = map (λ x. x.leaf) (recovered_of parts).kept ++ empty_names parts

-- The committed leaves and the orphans are read. After recovery each leaf of the index has an intact node of its key and length
-- at its place, in a main LEB that isn't marked as the index's, and no two leaves overlap. What can't be read was replaced by the journal.
pub record HasLeaves (contents : ℕ → List ℕ) (image : Image) : Type 0 where
  pub committed : AreCommitted contents (leaves_in (plain image.placed)) image.committed
  pub listed : AreOrphans contents (orph_first image.geo) image.geo.orph_lebs image.listed
  pub sound : All (λ (leaf : Leaf). IsSoundLeaf contents image.geo image.props leaf) (leaves_recovered (parts_of image))
  pub replaced : missing_leaves (parts_of image) ≡ []
  pub apart : IsTrue (are_disjoint (map branch_to (leaves_recovered (parts_of image))))

-- What breaks the rule on leaves, and where.
use Rattle.std.specs.Prelude.{◌≡◌, ◌⊎◌, ℕ, ◌+◌, ◌≤◌, IsFalse, List, ◌∷◌, ◌++◌, length, take, drop}
use Rattle.std.specs.List.{list_all}
use Rattle.ubifs_base.specs.NodeType.{type_number}
use Rattle.ubifs_base.specs.declared.key.Key.{Key}
use Rattle.ubifs_base.specs.declared.key.Key.TheVariants.{Ino, Block, Dent, Xent}
use Rattle.ubifs_base.specs.declared.node_type.NodeType.{NodeType}
use Rattle.ubifs_base.specs.declared.node_type.NodeType.TheVariants as types
use Rattle.ubifs_base.specs.declared.raw_geometry.RawGeometry.{RawGeometry}
use Rattle.media_leaf.specs.LeafNode.{IsLeafNode, LeafNode}
use Rattle.media_lpt.specs.declared.lprop.Lprop.{Lprop}
use Rattle.media_sys.specs.declared.feature.Feature.{Feature}
use Rattle.leb_scan.specs.Text.{leaf_type}
use Rattle.index_tree.specs.declared.leaf.Leaf.{Leaf}
use Rattle.index_media.specs.PlacedRow.{branch_to, is_apart, stretch_of}
use Rattle.leaf_map.specs.Lost.{missing_leaves}
use Rattle.leaf_map.specs.Parts.{Parts}
use Rattle.sound_image.specs.Frames.{IsKnownAt, NeedsFeature}
use Rattle.sound_image.specs.Leaves.{IsSoundLeaf, leaves_recovered}
use Rattle.sound_image.specs.Wrong.{IsOneOf, Misfit, Wrong, differs, needs, type_byte}

-- the type of the nodes of a key
abbrev pub key_type : Key → NodeType
key_type (Ino ino) = types.Inode
key_type (Block ino number) = types.Data
key_type (Dent dir hash) = types.Entry
key_type (Xent ino hash) = types.Attribute

-- at a leaf's place an intact node of this length stands, of the type of its key
pub record HasLeafNodeOf (contents : ℕ → List ℕ) (leaf : Leaf) (len : ℕ) : Type 0 where
  pub sqnum : ℕ
  pub group : ℕ
  pub node : LeafNode
  pub room : leaf.offs + len ≤ length (contents leaf.lnum)
  pub is : IsLeafNode (take len (drop leaf.offs (contents leaf.lnum))) sqnum group node
  pub type : leaf_type node ≡ key_type leaf.key

-- what is told of a leaf's place: the feature that is needed there; else the type that is wanted, where no intact node of it stands; else both lengths
abbrev pub IsLeafMisfit : (ℕ → List ℕ) → Leaf → Misfit → Type 0
IsLeafMisfit contents leaf misfit =
    ((what : Feature) × NeedsFeature (contents leaf.lnum) leaf.offs what × (misfit ≡ needs what))
    ⊎ (IsKnownAt (contents leaf.lnum) leaf.offs
    × ((((len : ℕ) → HasLeafNodeOf contents leaf len → ⊥) × (misfit ≡ differs (type_number (key_type leaf.key)) (type_byte (contents leaf.lnum) leaf.offs)))
    ⊎ ((len : ℕ) × HasLeafNodeOf contents leaf len × (misfit ≡ differs leaf.len len))))

-- a leaf is not sound, or overlaps one of these others
abbrev pub IsWrongAmong : (ℕ → List ℕ) → RawGeometry → List Lprop → Leaf → List Leaf → Type 0
IsWrongAmong contents geo props leaf others =
    (IsSoundLeaf contents geo props leaf → ⊥) ⊎ IsFalse (list_all (λ (other : Leaf). is_apart (stretch_of (branch_to leaf)) (branch_to other)) others)

-- One of these leaves is not sound, or overlaps another; or one is among those that can't be read.
pub record IsWrongOfLeaves (contents : ℕ → List ℕ) (geo : RawGeometry) (props : List Lprop) (missing leaves : List Leaf) (at : Wrong) : Type 0 where
  pub leaf : Leaf
  pub lnum : at.lnum ≡ leaf.lnum
  pub offs : at.offs ≡ leaf.offs
  pub wrong : IsOneOf leaf missing
      ⊎ ((before : List Leaf) × (behind : List Leaf) × (leaves ≡ before ++ (leaf ∷ behind)) × IsWrongAmong contents geo props leaf (before ++ behind))
  pub misfit : IsLeafMisfit contents leaf at.misfit

-- Of the leaves after recovery.
abbrev pub IsWrongLeaf : (ℕ → List ℕ) → RawGeometry → List Lprop → Parts → Wrong → Type 0
IsWrongLeaf contents geo props parts at = IsWrongOfLeaves contents geo props (missing_leaves parts) (leaves_recovered parts) at

-- Nodes of features that aren't known here: compressed data, and attributes (ubifs-media.h).
use Rattle.std.specs.Prelude.{◌≡◌, ◌≢◌, ◌⊎◌, ℕ, ◌+◌, ◌<◌, ◌≤◌, bit_and, List, length, take, drop}
use Rattle.byteorder.specs.Endian.{little_number}
use Rattle.ubifs_base.specs.Node.{IsNode}
use Rattle.ubifs_base.specs.NodeType.{type_number}
use Rattle.ubifs_base.specs.declared.node_type.NodeType.{NodeType}
use Rattle.ubifs_base.specs.declared.node_type.NodeType.TheVariants as types
use Rattle.media_sys.specs.declared.feature.Feature.{Feature}
use Rattle.media_sys.specs.declared.feature.Feature.TheVariants.{Compressed, Attributes}

-- at a place of a LEB an intact frame begins, of a node of this type with this body, whatever the body says
pub record HasFrameAt (leb : List ℕ) (place : ℕ) (type : NodeType) (body : List ℕ) : Type 0 where
  pub len : ℕ
  pub sqnum : ℕ
  pub group : ℕ
  pub room : place + len ≤ length leb
  pub framed : IsNode (take len (drop place leb)) sqnum (type_number type) group body

-- a data node's body says that its bytes are compressed
pub record IsCompressed (body : List ℕ) : Type 0 where
  pub long : 24 ≤ length body
  pub kind : 0 < little_number 2 (drop 20 body)

-- an inode's body says that it has attributes, or is one
pub record HasAttributes (body : List ℕ) : Type 0 where
  pub long : 136 ≤ length body
  pub some : (bit_and (little_number 4 (drop 84 body)) 0x20 ≢ 0) ⊎ (0 < little_number 4 (drop 92 body))

-- what stands at a place of a LEB needs a feature that isn't known here: compressed data; or an attribute's entry, or an inode with attributes
abbrev pub NeedsFeature : List ℕ → ℕ → Feature → Type 0
NeedsFeature leb place what =
    ((what ≡ Compressed) × (body : List ℕ) × HasFrameAt leb place types.Data body × IsCompressed body)
    ⊎ ((what ≡ Attributes) × (body : List ℕ) × (HasFrameAt leb place types.Attribute body ⊎ (HasFrameAt leb place types.Inode body × HasAttributes body)))

-- what stands at a place of a LEB needs none
abbrev pub IsKnownAt : List ℕ → ℕ → Type 0
IsKnownAt leb place = (what : Feature) → NeedsFeature leb place what → ⊥

-- Leaf nodes that are read.
use Rattle.std.specs.Prelude.{◌≡◌, ℕ, ◌+◌, ◌≤◌, ◌<◌, List, length, take, drop, Some}
use Rattle.media_leaf.specs.LeafNode.{IsLeafNode, LeafNode}
use Rattle.leb_scan.specs.Text.{leaf_type}
use Rattle.leb_scan.specs.declared.found.Found.{Found}
use Rattle.group_nodes.specs.Nodes.{leaf_key}
use Rattle.sound_image.specs.Frames.{IsKnownAt}
use Rattle.index_tree.specs.declared.leaf.Leaf.{Leaf}
use Rattle.ubi_volume.specs.Volume.{VolumeState}

-- these bytes are this leaf node, all of them
pub record IsWholeLeaf (bytes : List ℕ) (found : Found) (node : LeafNode) : Type 0 where
  pub here : found.offs ≡ 0
  pub len : found.len ≡ length bytes
  pub kind : found.kind ≡ leaf_type node
  pub is : IsLeafNode bytes found.sqnum found.group node

-- they are this node, of the type that was found
pub record IsWholeOf (bytes : List ℕ) (found : Found) (node : LeafNode) : Type 0 where
  pub kind : found.kind ≡ leaf_type node
  pub is : IsLeafNode bytes found.sqnum found.group node

-- they are the node of a leaf, by its key, and need no feature that isn't known here
pub record IsItsNode (bytes : List ℕ) (leaf : Leaf) : Type 0 where
  pub sqnum : ℕ
  pub group : ℕ
  pub node : LeafNode
  pub is : IsLeafNode bytes sqnum group node
  pub key : leaf_key node ≡ Some leaf.key
  pub known : IsKnownAt bytes 0

-- at a leaf's place this node stands with its length, and the buffer begins with its bytes
pub record IsLeafRead (contents : ℕ → List ℕ) (leaf : Leaf) (buffer : List ℕ) (found : Found) : Type 0 where
  pub node : LeafNode
  pub room : leaf.offs + leaf.len ≤ length (contents leaf.lnum)
  pub bytes : take leaf.len buffer ≡ take leaf.len (drop leaf.offs (contents leaf.lnum))
  pub len : found.len ≡ leaf.len
  pub kind : found.kind ≡ leaf_type node
  pub is : IsLeafNode (take leaf.len buffer) found.sqnum found.group node

-- an intact leaf node stands at a leaf's place, with its length
pub record HasWholeLeaf (contents : ℕ → List ℕ) (leaf : Leaf) : Type 0 where
  pub sqnum : ℕ
  pub group : ℕ
  pub node : LeafNode
  pub room : leaf.offs + leaf.len ≤ length (contents leaf.lnum)
  pub is : IsLeafNode (take leaf.len (drop leaf.offs (contents leaf.lnum))) sqnum group node

-- a leaf's place lies in the volume, and is no longer than any leaf node
pub record IsPlaceFor (state : VolumeState) (leaf : Leaf) : Type 0 where
  pub lnum : leaf.lnum < state.leb_cnt
  pub range : leaf.offs + leaf.len ≤ state.leb_size
  pub room : leaf.offs + leaf.len ≤ length (state.holds leaf.lnum)
  pub most : leaf.len ≤ 4256

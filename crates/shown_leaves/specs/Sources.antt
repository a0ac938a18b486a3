-- Where the nodes of leaves were read, and which leaves don't show what stands at their places.
use Rattle.std.specs.Prelude.{◌≡◌, ⊤, ℕ, ◌+◌, ◌<◌, ◌≤◌, List, [], ◌∷◌, length, Option, Some, None, take, drop}
use Rattle.leaf_map.specs.Kept.{Kept, Placed}
use Rattle.leaf_map.specs.Recovered.{stand_in}
use Rattle.media_leaf.specs.LeafNode.{IsLeafNode, LeafNode, block}
use Rattle.sound_image.specs.Breaches.{IsAtNode, inode_number_of}
use Rattle.sound_image.specs.Leaves.{IsPlacedIn}
use Rattle.sound_image.specs.Tree.{ShowsItsNode}
use Rattle.sound_image.specs.Wrong.{IsOneOf, Wrong, differs}
use Rattle.index_tree.specs.declared.leaf.Leaf.{Leaf}
use Rattle.ubi_volume.specs.Volume.{VolumeState}
use Rattle.shown_leaves.specs.declared.sourced_leaf.KnownBlock.{KnownBlock}
use Rattle.shown_leaves.specs.declared.sourced_leaf.Source.{Source}
use Rattle.shown_leaves.specs.declared.sourced_leaf.SourcedLeaf.{SourcedLeaf}

-- a node stands at the place from which it was read
pub record IsReadFrom (source : Source) (node : Placed) : Type 0 where
  pub lnum : node.lnum ≡ source.lnum
  pub offs : node.offs ≡ source.offs
  pub len : node.len ≡ source.len

-- a place lies in the volume, and is no longer than any leaf node
pub record IsSourceIn (state : VolumeState) (source : Source) : Type 0 where
  pub lnum : source.lnum < state.leb_cnt
  pub range : source.offs + source.len ≤ state.leb_size
  pub room : source.offs + source.len ≤ length (state.holds source.lnum)
  pub most : source.len ≤ 4256

-- a leaf's node stands where it was read; without a source it is what stands in for it
abbrev pub HasSource : (ℕ → List ℕ) → Kept → Option Source → Type 0
HasSource contents x (Some source) = (node : Placed) × IsReadFrom source node × IsPlacedIn contents node × (node.node ≡ x.node)
HasSource contents x None = stand_in x.leaf.key ≡ Some x.node

-- a node is this block, if it is known to be one
abbrev pub IsKnownBlock : LeafNode → Option KnownBlock → Type 0
IsKnownBlock node None = ⊤
IsKnownBlock node (Some known) = (bytes : List ℕ) × (node ≡ block (record { ino = known.ino; block = known.number; bytes = bytes }))

-- this is a leaf, where its node was read, and which block that is
pub record IsSourced (contents : ℕ → List ℕ) (x : Kept) (leaf : SourcedLeaf) : Type 0 where
  pub is : leaf.leaf ≡ x.leaf
  pub source : HasSource contents x leaf.source
  pub known : IsKnownBlock x.node leaf.block

-- each of these leaves, in order
abbrev pub AreSourced : (ℕ → List ℕ) → List Kept → List SourcedLeaf → Type 0
AreSourced contents [] [] = ⊤
AreSourced contents [] (leaf ∷ leaves) = ⊥
AreSourced contents (x ∷ kept) [] = ⊥
AreSourced contents (x ∷ kept) (leaf ∷ leaves) = IsSourced contents x leaf × AreSourced contents kept leaves

-- the bytes at a leaf's place, or as many of them as there are
abbrev pub bytes_of : (ℕ → List ℕ) → Leaf → List ℕ
bytes_of contents leaf = take leaf.len (drop leaf.offs (contents leaf.lnum))

-- a node stands at a leaf's place
abbrev pub StandsAtLeaf : (ℕ → List ℕ) → Leaf → LeafNode → Type 0
StandsAtLeaf contents leaf node = (sqnum : ℕ) × (group : ℕ) × IsLeafNode (bytes_of contents leaf) sqnum group node

-- a leaf doesn't show what stands at its place; the number by which it is named is wanted
abbrev pub IsUnlike : (ℕ → List ℕ) → Kept → Wrong → Type 0
IsUnlike contents x at = (ShowsItsNode contents x → ⊥) × IsAtNode x (differs (inode_number_of x) 0) at

-- one of these leaves doesn't
abbrev pub IsUnlikeIn : (ℕ → List ℕ) → List Kept → Wrong → Type 0
IsUnlikeIn contents kept at = (x : Kept) × IsOneOf x kept × IsUnlike contents x at

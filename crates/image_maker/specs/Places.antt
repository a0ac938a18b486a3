-- Where the nodes of a tree stand that was laid, and what is answered of them.
use Rattle.std.specs.Prelude.{◌≡◌, ℕ, suc, ◌+◌, ◌^◌, ◌<◌, ◌≤◌, List, [], ◌∷◌, ◌++◌, length, map, sum_by}
use Rattle.std.specs.List.{flat_map, AllByRecursion}
use Rattle.ubifs_base.specs.declared.raw_geometry.RawGeometry.{RawGeometry}
use Rattle.ubifs_base.specs.Areas.{main_first}
use Rattle.media_leaf.specs.LeafNode.{LeafNode, IsLeafNode, written}
use Rattle.leaf_map.specs.Kept.{Placed, kept_at}
use Rattle.group_nodes.specs.Texts.{padded_leaf_bytes, leaf_len, leaf_text}
use Rattle.image_maker.specs.Image.{AreHeld}
use Rattle.image_maker.specs.Packed.{packed_leaves}
use Rattle.image_maker.specs.declared.laid_leaves.LaidLeaves.{LaidLeaves}

-- leaves with their sequence numbers, which rise by one from this on
abbrev pub numbered_leaves : ℕ → List LeafNode → List (ℕ × LeafNode)
numbered_leaves sqnum [] = []
numbered_leaves sqnum (leaf ∷ leaves) = (sqnum, leaf) ∷ numbered_leaves (suc sqnum) leaves

-- the text of a leaf with its number and the group type 0
abbrev pub numbered_text : ℕ × LeafNode → List ℕ
numbered_text n = leaf_text n.0 0 n.1

-- the node that a leaf with its number is at this place of a LEB
abbrev pub placed_leaf : ℕ → ℕ → ℕ × LeafNode → Placed
placed_leaf lnum offs n = record { node = n.1; sqnum = n.0; group = 0; lnum = lnum; offs = offs; len = leaf_len n.1 }

-- leaves in a LEB, one behind another from this offset on
abbrev pub placed_row : ℕ → ℕ → List (ℕ × LeafNode) → List Placed
placed_row lnum offs [] = []
placed_row lnum offs (n ∷ row) = placed_leaf lnum offs n ∷ placed_row lnum (offs + padded_leaf_bytes n.1) row

-- rows of leaves in LEBs that follow one another from this on, each from its LEB's start on
abbrev pub placed_rows : ℕ → List (List (ℕ × LeafNode)) → List Placed
placed_rows lnum [] = []
placed_rows lnum (row ∷ rows) = placed_row lnum 0 row ++ placed_rows (suc lnum) rows

-- how many bytes leaves take, each with those up to a multiple of 8
abbrev pub row_bytes : List (ℕ × LeafNode) → ℕ
row_bytes row = sum_by (λ n. padded_leaf_bytes n.1) row

-- leaves that fill a LEB: some, and no more than it has room for
pub record FitsLeb (raw : RawGeometry) (row : List (ℕ × LeafNode)) : Type 0 where
  pub some : 0 < row_bytes row
  pub most : row_bytes row ≤ raw.leb_size

-- what is written of a leaf is a node of the grammar, with its number
abbrev pub IsWrittenLeaf : ℕ × LeafNode → Type 0
IsWrittenLeaf n = IsLeafNode (written n.0 0 n.1) n.0 0 n.1

-- The leaves, numbered from 1 on and divided in order into rows, stand in the first main LEBs, each of which took leaves as long as they fit. Answered are the leaf
-- that each node is at its place, the bytes that the row of each LEB takes, and the next number. A LEB is left at least.
pub record AreLaid (raw : RawGeometry) (leaves : List LeafNode) (holds : ℕ → List ℕ) (laid : LaidLeaves) : Type 0 where
  pub rows : List (List (ℕ × LeafNode))
  pub all : flat_map (λ row. row) rows ≡ numbered_leaves 1 leaves
  pub each : AllByRecursion (FitsLeb raw) rows
  pub held : AreHeld raw (map (map numbered_text) rows) holds
  pub nodes : AllByRecursion IsWrittenLeaf (numbered_leaves 1 leaves)
  pub leaves_are : laid.leaves.items ≡ map (λ x. (kept_at x).leaf) (placed_rows (main_first raw) rows)
  pub used : laid.used.items ≡ map row_bytes rows
  pub packed : laid.used.items ≡ packed_leaves raw.leb_size 0 leaves
  pub sqnum : laid.sqnum ≡ suc (length leaves)
  pub few : length leaves ≤ 2 ^ 30
  pub room : main_first raw + length rows < raw.leb_cnt

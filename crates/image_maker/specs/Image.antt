-- A fresh image: which bytes the main LEBs have for the leaf nodes of a tree.
use Rattle.std.specs.Prelude.{◌≡◌, ℕ, ◌+◌, ◌-◌, ◌*◌, ◌<◌, ◌≤◌, suc, List, [], ◌∷◌, ◌++◌, length, get_or}
use Rattle.std.specs.List.{concat, flat_map}
use Rattle.std.specs.Int.{div_ceil}
use Rattle.ubifs_base.specs.declared.raw_geometry.RawGeometry.{RawGeometry}
use Rattle.ubifs_base.specs.Areas.{main_first, main_lebs}
use Rattle.ubifs_base.specs.Gap.{gap_of}
use Rattle.ubi_volume.specs.declared.mem_volume.VolShape.{VolShape}
use Rattle.ubi_volume.specs.Volume.{filled}
use Rattle.media_leaf.specs.LeafNode.{LeafNode}
use Rattle.group_nodes.specs.Texts.{leaf_text}

-- the shape of a volume of this geometry
abbrev pub shape_for : RawGeometry → VolShape
shape_for raw = record { leb_size = raw.leb_size; min_io = raw.min_io; leb_cnt = raw.leb_cnt }

-- the texts of leaves, numbered from this number on, each with the group type 0
abbrev pub leaf_texts : ℕ → List LeafNode → List (List ℕ)
leaf_texts sqnum [] = []
leaf_texts sqnum (leaf ∷ leaves) = leaf_text sqnum 0 leaf ∷ leaf_texts (suc sqnum) leaves

-- rounded up to a multiple of the unit
abbrev pub round_up : ℕ → ℕ → ℕ
round_up unit n = div_ceil n unit * unit

-- the bytes, and a gap up to the unit
abbrev pub to_unit : ℕ → List ℕ → List ℕ
to_unit unit bytes = bytes ++ gap_of (round_up unit (length bytes) - length bytes)

-- what a LEB of these texts holds: they, a gap up to the unit, and unwritten bytes to its end
abbrev pub leb_text : RawGeometry → List (List ℕ) → List ℕ
leb_text raw texts = filled raw.leb_size (to_unit raw.min_io (concat texts))

-- each of the first main LEBs holds its part, and every other LEB is unwritten
pub record AreHeld (raw : RawGeometry) (parts : List (List (List ℕ))) (holds : ℕ → List ℕ) : Type 0 where
  pub main : (k : ℕ) → k < length parts → holds (main_first raw + k) ≡ leb_text raw (get_or parts k [])
  pub before : (n : ℕ) → n < main_first raw → holds n ≡ filled raw.leb_size []
  pub behind : (n : ℕ) → main_first raw + length parts ≤ n → n < raw.leb_cnt → holds n ≡ filled raw.leb_size []

-- the leaves, divided in order into parts, which the first main LEBs hold
pub record IsImage (raw : RawGeometry) (leaves : List LeafNode) (holds : ℕ → List ℕ) : Type 0 where
  pub parts : List (List (List ℕ))
  pub all : flat_map (λ part. part) parts ≡ leaf_texts 1 leaves
  pub few : length parts ≤ main_lebs raw
  pub held : AreHeld raw parts holds

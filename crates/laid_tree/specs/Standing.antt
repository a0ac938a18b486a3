-- What is left to be shown of the live nodes of a tree that were laid, and what is asked of the tree.
use Rattle.std.specs.Prelude.{◌≡◌, ◌⊎◌, ⊤, ℕ, ◌+◌, ◌<◌, ◌≤◌, ◌==◌, bit_and, Bool, IsTrue, List, [], ◌∷◌}
use Rattle.ubifs_base.specs.declared.raw_geometry.RawGeometry.{RawGeometry}
use Rattle.index_media.specs.PlacedRow.{node_end}
use Rattle.media_lpt.specs.declared.lprop.Lprop.{Lprop}
use Rattle.fs_model.specs.declared.inode.Inode.{Inode}
use Rattle.leaf_map.specs.Kept.{Placed}
use Rattle.sound_image.specs.Leaves.{IsPlacedIn}
use Rattle.sound_image.specs.Properties.{is_unmarked}

-- a node stands whole at its place, in a main LEB that isn't marked as the index's
pub record StandsUnmarked (contents : ℕ → List ℕ) (geo : RawGeometry) (props : List Lprop) (x : Placed) : Type 0 where
  pub stands : IsPlacedIn contents x
  pub unmarked : IsTrue (is_unmarked geo props x.lnum)

-- whether an inode's flags don't say that it is an attribute's (`UBIFS_XATTR_FL`)
abbrev pub is_plain : ℕ × Inode → Bool
is_plain e = bit_and e.1.flags 0x20 == 0

-- a node begins at this offset of a LEB or behind it, or in a later LEB
abbrev pub BeginsFrom : ℕ → ℕ → Placed → Type 0
BeginsFrom lnum offs x = (lnum < x.lnum) ⊎ ((lnum ≡ x.lnum) × (offs ≤ x.offs))

-- from a place on nodes of some bytes stand in order, each behind the end of the one before it, rounded up to 8
abbrev pub StandInOrder : ℕ → ℕ → List Placed → Type 0
StandInOrder lnum offs [] = ⊤
StandInOrder lnum offs (x ∷ nodes) = (0 < x.len) × BeginsFrom lnum offs x × StandInOrder x.lnum (node_end (x.offs + x.len)) nodes

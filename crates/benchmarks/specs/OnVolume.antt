-- An index that stands on a volume in part.
use Rattle.std.specs.Prelude.{◌≡◌, ◌<◌, ℕ, List}
use Rattle.index_commit.specs.Lebs.{IsGiven}
use Rattle.index_media.specs.KeyedRow.{KeyedRow}
use Rattle.mounted_index.specs.Shown.{Shows, StandsIn}
use Rattle.mounted_index.specs.declared.mounted.MountedIndex.{MountedIndex}
use Rattle.ubi_volume.specs.Geometry.{IsGeometryOf}
use Rattle.ubi_volume.specs.Volume.{VolumeState}
use Rattle.ubifs_base.specs.RawOf.{raw_of}
use Rattle.ubifs_base.specs.declared.geometry.Geometry.{Geometry}

-- the index shows a row, whose clean nodes stand in LEBs before the next one
pub record StandsInLebsBefore (geometry : Geometry) (state : VolumeState) (index : MountedIndex) (next : ℕ) : Type 0 where
  pub row : KeyedRow
  pub kept : List ℕ
  pub shown : Shows state index row
  pub stands : StandsIn state kept row
  pub before : (k : ℕ) → IsGiven kept k → k < next
  pub own : index.geometry ≡ geometry
  pub fits : IsGeometryOf (raw_of geometry) state

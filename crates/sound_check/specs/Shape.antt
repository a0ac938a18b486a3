-- The shape of a volume that is checked.
use Rattle.std.specs.Prelude.{◌<◌}
use Rattle.ubifs_base.specs.declared.raw_geometry.RawGeometry.{RawGeometry}
use Rattle.ubi_volume.specs.Geometry.{IsGeometryOf}
use Rattle.ubi_volume.specs.Volume.{VolumeState}
use Rattle.sound_image.specs.Superblock.{HasSuperblock}

-- The volume has LEBs, and if its LEB 0 tells a geometry by the rule on superblocks, it has the shape of that geometry.
pub record HasShapeOfImage (state : VolumeState) : Type 0 where
  pub some : 0 < state.leb_cnt
  pub shape : (geo : RawGeometry) → HasSuperblock state.holds geo → IsGeometryOf geo state

-- A volume and the geometry of what is on it.
use Rattle.std.specs.Prelude.{◌≡◌, ◌≤◌}
use Rattle.ubifs_base.specs.declared.raw_geometry.RawGeometry.{RawGeometry}
use Rattle.ubi_volume.specs.Volume.{VolumeState}

-- the geometry is that of the volume, which may have more LEBs
pub record IsGeometryOf (geo : RawGeometry) (state : VolumeState) : Type 0 where
  pub leb_size : geo.leb_size ≡ state.leb_size
  pub min_io : geo.min_io ≡ state.min_io
  pub leb_cnt : geo.leb_cnt ≤ state.leb_cnt

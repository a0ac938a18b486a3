-- The numbers of a geometry that is in range.
use Rattle.ubifs_base.specs.declared.raw_geometry.RawGeometry.{RawGeometry}
use Rattle.ubifs_base.specs.declared.geometry.Geometry.{Geometry}

-- the same fields
abbrev pub raw_of : Geometry → RawGeometry
raw_of geo = record {
  leb_size = geo.leb_size;
  min_io = geo.min_io;
  log_lebs = geo.log_lebs;
  lpt_lebs = geo.lpt_lebs;
  orph_lebs = geo.orph_lebs;
  leb_cnt = geo.leb_cnt;
  max_leb_cnt = geo.max_leb_cnt;
  fanout = geo.fanout;
  lsave_cnt = geo.lsave_cnt;
  big = geo.big;
}

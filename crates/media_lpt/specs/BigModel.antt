-- A volume of the big model.
use Rattle.std.specs.Prelude.{true}
use Rattle.ubifs_base.specs.declared.raw_geometry.RawGeometry.{RawGeometry}

-- 4,096 main LEBs of 16,384 bytes behind four LEBs of log, four of properties and one of orphans
abbrev pub big_geometry : RawGeometry
big_geometry = record {
  leb_size = 16384;
  min_io = 512;
  log_lebs = 4;
  lpt_lebs = 4;
  orph_lebs = 1;
  leb_cnt = 4108;
  max_leb_cnt = 4108;
  fanout = 8;
  lsave_cnt = 256;
  big = true;
}

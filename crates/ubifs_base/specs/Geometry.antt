-- Which geometries are in range, and what follows from one.
use Rattle.std.specs.Prelude.{◌≡◌, ℕ, ◌+◌, ◌*◌, ◌/◌, ◌%◌, ◌^◌, ◌<◌, ◌≤◌, IsTrue, false}
use Rattle.std.specs.Int.{is_power_of_two}
use Rattle.ubifs_base.specs.declared.raw_geometry.RawGeometry.{RawGeometry}
use Rattle.ubifs_base.specs.Areas.{main_first}
use Rattle.ubifs_base.specs.Properties.{tree_len}

-- what of each LEB isn't promised to leaves: a data node that doesn't fit at its end, two units of padding, and 1,024 bytes
abbrev pub leb_reserve : RawGeometry → ℕ
leb_reserve geo = 4256 + 2 * geo.min_io + 1024

-- the length of an index node with as many children as it may have, rounded up to 8
abbrev pub index_node_len : RawGeometry → ℕ
index_node_len geo = (28 + 20 * geo.fanout + 7) / 8 * 8

-- how many index nodes a LEB takes
abbrev pub index_nodes_per_leb : RawGeometry → ℕ
index_nodes_per_leb geo = geo.leb_size / index_node_len geo

-- a power of two from 8 to 16,384
abbrev pub IsMinIo : RawGeometry → Type 0
IsMinIo geo = IsTrue (is_power_of_two geo.min_io) × (8 ≤ geo.min_io) × (geo.min_io ≤ 16384)

-- 15,360 to 2,097,152, a multiple of min_io, and greater than the reserve
abbrev pub IsLebSize : RawGeometry → Type 0
IsLebSize geo = (15360 ≤ geo.leb_size) × (geo.leb_size ≤ 2097152) × (geo.leb_size % geo.min_io ≡ 0) × (leb_reserve geo < geo.leb_size)

-- at least 3, at most 1,024
abbrev pub IsLogLebs : RawGeometry → Type 0
IsLogLebs geo = (3 ≤ geo.log_lebs) × (geo.log_lebs ≤ 1024)

-- at least 2, at most 1,024
abbrev pub IsLptLebs : RawGeometry → Type 0
IsLptLebs geo = (2 ≤ geo.lpt_lebs) × (geo.lpt_lebs ≤ 1024)

-- at least 1, at most 1,024
abbrev pub IsOrphLebs : RawGeometry → Type 0
IsOrphLebs geo = (1 ≤ geo.orph_lebs) × (geo.orph_lebs ≤ 1024)

-- at least one main LEB, and no more LEBs than the volume may ever have
abbrev pub IsLebCnt : RawGeometry → Type 0
IsLebCnt geo = (main_first geo < geo.leb_cnt) × (geo.leb_cnt ≤ geo.max_leb_cnt)

-- at most 2^30 bytes in all
abbrev pub IsMaxLebCnt : RawGeometry → Type 0
IsMaxLebCnt geo = geo.max_leb_cnt * geo.leb_size ≤ 2 ^ 30

-- the properties tree fits one LEB, as the small model asks
abbrev pub FitsOneLeb : RawGeometry → Type 0
FitsOneLeb geo = tree_len geo ≤ geo.leb_size

-- 3 to 256
abbrev pub IsFanout : RawGeometry → Type 0
IsFanout geo = (3 ≤ geo.fanout) × (geo.fanout ≤ 256)

-- all fields are in range, in the small model
pub record IsGeometry (geo : RawGeometry) : Type 0 where
  pub min_io : IsMinIo geo
  pub leb_size : IsLebSize geo
  pub log_lebs : IsLogLebs geo
  pub lpt_lebs : IsLptLebs geo
  pub orph_lebs : IsOrphLebs geo
  pub leb_cnt : IsLebCnt geo
  pub max_leb_cnt : IsMaxLebCnt geo
  pub one_leb : FitsOneLeb geo
  pub fanout : IsFanout geo

-- the geometry that a plain volume with so many main LEBs has
abbrev pub plain_geometry : ℕ → ℕ → ℕ → ℕ → RawGeometry
plain_geometry leb_size min_io main fanout = record {
  leb_size = leb_size;
  min_io = min_io;
  log_lebs = 4;
  lpt_lebs = 2;
  orph_lebs = 1;
  leb_cnt = main + 10;
  max_leb_cnt = main + 10;
  fanout = fanout;
  lsave_cnt = 256;
  big = false;
}

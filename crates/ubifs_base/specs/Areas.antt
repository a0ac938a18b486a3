-- Where the areas of a volume lie: the superblock in LEB 0, the masters in LEBs 1 and 2, then the log, the properties, the orphans, and the main area to the end.
use Rattle.std.specs.Prelude.{ℕ, ◌+◌, ◌-◌}
use Rattle.ubifs_base.specs.declared.raw_geometry.RawGeometry.{RawGeometry}

-- the first LEB of the properties area
abbrev pub lpt_first : RawGeometry → ℕ
lpt_first geo = 3 + geo.log_lebs

-- the first LEB of the orphan area
abbrev pub orph_first : RawGeometry → ℕ
orph_first geo = lpt_first geo + geo.lpt_lebs

-- the first main LEB
abbrev pub main_first : RawGeometry → ℕ
main_first geo = orph_first geo + geo.orph_lebs

-- the number of main LEBs
abbrev pub main_lebs : RawGeometry → ℕ
main_lebs geo = geo.leb_cnt - main_first geo

-- LEBs that are counted.
use Rattle.std.specs.Prelude.{ℕ, ◌+◌, List, length}
use Rattle.ubifs_base.specs.declared.raw_geometry.RawGeometry.{RawGeometry}
use Rattle.laid_index.specs.Packing.{packed}
use Rattle.laid_index.specs.declared.packing.LebCount.{LebCount}

-- how many LEBs are taken once nodes of these lengths are taken too, the open one among them
abbrev pub lebs_after : RawGeometry → LebCount → List ℕ → ℕ
lebs_after geo count lens = count.lebs + length (packed geo.leb_size count.taken lens)

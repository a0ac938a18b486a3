-- The rule on masters (`ubifs_read_master` and `validate_master` of Linux fs/ubifs).
use Rattle.std.specs.Prelude.{◌≡◌, ℕ, List, None}
use Rattle.ubifs_base.specs.declared.raw_geometry.RawGeometry.{RawGeometry}
use Rattle.small_areas.specs.Addresses.{addresses_of, first_past}
use Rattle.small_areas.specs.Masters.{IsLatest}
use Rattle.small_areas.specs.declared.placed_master.PlacedMaster.{PlacedMaster}

-- LEBs 1 and 2 have an intact master; this is the latest, and its addresses lie in their areas.
pub record HasMasters (contents : ℕ → List ℕ) (geo : RawGeometry) (latest : PlacedMaster) : Type 0 where
  pub is_latest : IsLatest (contents 1) (contents 2) latest
  pub in_areas : first_past (addresses_of geo latest.master) ≡ None

-- The main area as a flat list: of each LEB its properties and what it is used for.
use Rattle.std.specs.Prelude.{ℕ, ◌+◌, ◌-◌, ◌≤◌, ◌<◌, true, List, get_or, set}
use Rattle.ubifs_base.specs.Areas.{main_first}
use Rattle.ubifs_base.specs.declared.raw_geometry.RawGeometry.{RawGeometry}
use Rattle.media_lpt.specs.declared.leb_kind.LebKind.{LebKind}
use Rattle.media_lpt.specs.declared.leb_kind.LebKind.TheVariants.{Taken}
use Rattle.media_lpt.specs.declared.lprop.Lprop.{Lprop}

-- the main LEBs of a volume, from the first on
pub record MainArea : Type 0 where
  pub geo : RawGeometry
  pub lebs : List (Lprop × LebKind)

-- it is a main LEB's number
pub record IsMainLeb (geo : RawGeometry) (lnum : ℕ) : Type 0 where
  pub low : main_first geo ≤ lnum
  pub high : lnum < geo.leb_cnt

-- free and dirty bytes are together at most the LEB
pub record IsWithinLeb (geo : RawGeometry) (prop : Lprop) : Type 0 where
  pub fits : prop.free + prop.dirty ≤ geo.leb_size

-- bytes that are neither free nor dirty
abbrev pub used_bytes : RawGeometry → Lprop → ℕ
used_bytes geo prop = geo.leb_size - (prop.free + prop.dirty)

-- a LEB that adds nothing to the totals, and may not be picked
abbrev pub unknown : Lprop × LebKind
unknown = (record { free = 0; dirty = 0; index = true }, Taken)

-- what is known of a main LEB
abbrev pub leb_at : MainArea → ℕ → Lprop × LebKind
leb_at area lnum = get_or area.lebs (lnum - main_first area.geo) unknown

-- the area with something else known of one LEB
abbrev pub with_leb : MainArea → ℕ → Lprop × LebKind → MainArea
with_leb area lnum leb = record area { lebs = set area.lebs (lnum - main_first area.geo) leb }

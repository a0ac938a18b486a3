-- What stands in contents outside of some LEBs.
use Rattle.std.specs.Prelude.{ℕ, List}
use Rattle.index_media.specs.KeyedRow.{KeyedRow}
use Rattle.index_media.specs.PlacedRow.{Stretch}
use Rattle.index_media.specs.Standing.{AreStandingAs}
use Rattle.index_commit.specs.Lebs.{IsGiven}

-- a place is in none of these LEBs
abbrev pub IsOutside : List ℕ → Stretch → ℕ → ℕ → Type 0
IsOutside lebs place number group = IsGiven lebs place.lnum → ⊥

-- each clean node of a row stands in contents, outside of these LEBs
abbrev pub AreOutside : (ℕ → List ℕ) → List ℕ → KeyedRow → Type 0
AreOutside contents lebs row = AreStandingAs contents (IsOutside lebs) row

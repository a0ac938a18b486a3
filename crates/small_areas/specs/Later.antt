-- Of two masters the later one.
use Rattle.std.specs.Prelude.{◌≡◌, ℕ, List, IfSome, IfNone, nat_lt, if◌then◌else◌, Option, Some, None}
use Rattle.small_areas.specs.Masters.{IsLastMaster, HasNoMaster}
use Rattle.small_areas.specs.declared.placed_master.PlacedMaster.{PlacedMaster}

-- what was read of a LEB of this number: its last master, or that it has none
pub record IsReadOf (lnum : ℕ) (leb : List ℕ) (o : Option PlacedMaster) : Type 0 where
  pub some : IfSome o (λ (placed : PlacedMaster). IsLastMaster leb placed × (placed.lnum ≡ lnum))
  pub none : IfNone o (HasNoMaster leb)

-- that with the greater sequence number, and the first where both are equal
abbrev pub later_of : Option PlacedMaster → Option PlacedMaster → Option PlacedMaster
later_of None two = two
later_of (Some one) None = Some one
later_of (Some one) (Some two) = if nat_lt one.sqnum two.sqnum then Some two else Some one

-- What of the log is always kept: a LEB for the next section, and one for a mount's.
use Rattle.std.specs.Prelude.{◌≡◌, ℕ, ◌+◌, ◌%◌, ◌<◌, ◌≤◌, length, Option, Some, None}
use Rattle.ubifs_base.specs.declared.raw_geometry.RawGeometry.{RawGeometry}
use Rattle.store_model.specs.Legal.{kept_lebs, log_count, log_steps, next_section}
use Rattle.store_model.specs.Store.{Store}

-- where the section of a running commit starts: behind the first LEB of the log that is read, and no further than the log's end
abbrev pub IsOnTheWay : RawGeometry → ℕ → ℕ → Option ℕ → Type 0
IsOnTheWay geo from leb None = Unit {0}
IsOnTheWay geo from leb (Some section) =
    (section < geo.log_lebs) × (0 < log_steps geo from section) × (log_steps geo from section ≤ log_steps geo from leb)

-- The log lies in the ring, and ends at a unit of a LEB. Of the ring's LEBs two aren't used while no commit runs, for a section and a mount's, and one while one runs. So a commit finds a LEB for its section. It names the heads, three of them.
pub record HasLogLebs (m : Store) : Type 0 where
  pub heads : length m.ends ≡ 3
  pub synced : length m.synced ≡ 3
  pub first : m.now.section < m.geo.log_lebs
  pub last : m.log.leb < m.geo.log_lebs
  pub within : m.log.offs ≤ m.geo.leb_size
  pub unit : m.log.offs % m.geo.min_io ≡ 0
  pub kept : log_count m + kept_lebs (next_section m) ≤ m.geo.log_lebs
  pub on_the_way : IsOnTheWay m.geo m.now.section m.log.leb (next_section m)

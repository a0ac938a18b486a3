-- Which LEB is picked.
use Rattle.std.specs.Prelude.{◌≡◌, ℕ, ◌≤◌}
use Rattle.media_lpt.specs.declared.leb_kind.LebKind.TheVariants.{Free, Leaf}
use Rattle.lprops_tree.specs.MainArea.{MainArea, IsMainLeb, leb_at, used_bytes}

-- a free main LEB
pub record IsFreeLeb (area : MainArea) (lnum : ℕ) : Type 0 where
  pub main : IsMainLeb area.geo lnum
  pub free : (leb_at area lnum).1 ≡ Free

-- the lowest free one
pub record IsLowestFree (area : MainArea) (lnum : ℕ) : Type 0 where
  pub free : IsFreeLeb area lnum
  pub lowest : (other : ℕ) → IsFreeLeb area other → lnum ≤ other

-- the used bytes of a main LEB
abbrev pub used_at : MainArea → ℕ → ℕ
used_at area lnum = used_bytes area.geo (leb_at area lnum).0

-- a main LEB with leaves, which is no bud, with at most so many used bytes
pub record IsCollectable (area : MainArea) (most lnum : ℕ) : Type 0 where
  pub main : IsMainLeb area.geo lnum
  pub leaf : (leb_at area lnum).1 ≡ Leaf
  pub few : used_at area lnum ≤ most

-- the one with the fewest used bytes, and of several such the lowest
pub record IsVictim (area : MainArea) (most lnum : ℕ) : Type 0 where
  pub collectable : IsCollectable area most lnum
  pub fewest : (other : ℕ) → IsCollectable area most other → used_at area lnum ≤ used_at area other
  pub lowest : (other : ℕ) → IsCollectable area most other → used_at area other ≡ used_at area lnum → lnum ≤ other

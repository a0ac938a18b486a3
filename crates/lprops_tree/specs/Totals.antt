-- Sums over all main LEBs.
use Rattle.std.specs.Prelude.{ℕ, ◌+◌, ◌-◌, ◌≤◌, ◌^◌, if◌then◌else◌, sum_by}
use Rattle.ubifs_base.specs.declared.raw_geometry.RawGeometry.{RawGeometry}
use Rattle.media_lpt.specs.declared.leb_kind.LebKind.{LebKind}
use Rattle.media_lpt.specs.declared.leb_kind.LebKind.TheVariants.{Free, Leaf, Index, Bud, Taken}
use Rattle.media_lpt.specs.declared.lprop.Lprop.{Lprop}
use Rattle.lprops_tree.specs.MainArea.{MainArea, used_bytes}
use Rattle.lprops_tree.specs.declared.totals.Totals.{Totals}

-- used bytes of a LEB that holds no index nodes
abbrev pub leaf_bytes : RawGeometry → Lprop → ℕ
leaf_bytes geo prop = if prop.index then 0 else used_bytes geo prop

-- 1 for a free LEB
abbrev pub free_one : LebKind → ℕ
free_one Free = 1
free_one Leaf = 0
free_one Index = 0
free_one Bud = 0
free_one Taken = 0

-- 1 for a LEB of the index
abbrev pub index_one : LebKind → ℕ
index_one Free = 0
index_one Leaf = 0
index_one Index = 1
index_one Bud = 0
index_one Taken = 0

-- the sums over all main LEBs
abbrev pub totals_of : MainArea → Totals
totals_of area = record {
  free = sum_by (λ leb. leb.0.free) area.lebs;
  dirty = sum_by (λ leb. leb.0.dirty) area.lebs;
  used = sum_by (λ leb. leaf_bytes area.geo leb.0) area.lebs;
  empty = sum_by (λ leb. free_one leb.1) area.lebs;
  index = sum_by (λ leb. index_one leb.1) area.lebs;
}

-- what one LEB adds
abbrev pub leb_totals : RawGeometry → Lprop × LebKind → Totals
leb_totals geo leb = record { free = leb.0.free; dirty = leb.0.dirty; used = leaf_bytes geo leb.0; empty = free_one leb.1; index = index_one leb.1 }

-- no number is greater
pub record IsPart (part whole : Totals) : Type 0 where
  pub free : part.free ≤ whole.free
  pub dirty : part.dirty ≤ whole.dirty
  pub used : part.used ≤ whole.used
  pub empty : part.empty ≤ whole.empty
  pub index : part.index ≤ whole.index

-- each number is at most what a volume of the greatest size has
pub record IsFew (totals : Totals) : Type 0 where
  pub free : totals.free ≤ 2 ^ 30
  pub dirty : totals.dirty ≤ 2 ^ 30
  pub used : totals.used ≤ 2 ^ 30
  pub empty : totals.empty ≤ 2 ^ 30
  pub index : totals.index ≤ 2 ^ 30

-- the second taken off the first, and the third added
abbrev pub exchanged : Totals → Totals → Totals → Totals
exchanged totals old new = record {
  free = totals.free - old.free + new.free;
  dirty = totals.dirty - old.dirty + new.dirty;
  used = totals.used - old.used + new.used;
  empty = totals.empty - old.empty + new.empty;
  index = totals.index - old.index + new.index;
}

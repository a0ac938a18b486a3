-- The main LEBs one by one: what each is for, and how many of its bytes are used.
use Rattle.std.specs.Prelude.{◌≡◌, ℕ, ◌+◌, ◌-◌, ◌<◌, ◌≤◌, Bool, true, false, List, length, count_by, sum_by, All}
use Rattle.ubifs_base.specs.declared.raw_geometry.RawGeometry.{RawGeometry}
use Rattle.ubifs_base.specs.Geometry.{leb_reserve}
use Rattle.fs_model.specs.declared.space.Space.{Space}
use Rattle.media_lpt.specs.declared.leb_kind.LebKind.{LebKind}
use Rattle.media_lpt.specs.declared.leb_kind.LebKind.TheVariants.{Free, Leaf, Index, Bud, Taken}

-- a LEB: what it is used for, and the bytes of its leaves that are live or held
pub record MainLeb : Type 0 where
  pub kind : LebKind
  pub used : ℕ

-- it is empty
abbrev pub is_free : LebKind → Bool
is_free Free = true
is_free Leaf = false
is_free Index = false
is_free Bud = false
is_free Taken = false

-- it is the index's
abbrev pub is_index : LebKind → Bool
is_index Free = false
is_index Leaf = false
is_index Index = true
is_index Bud = false
is_index Taken = false

-- the log names it
abbrev pub is_bud : LebKind → Bool
is_bud Free = false
is_bud Leaf = false
is_bud Index = false
is_bud Bud = true
is_bud Taken = false

-- a running commit has set it aside
abbrev pub is_taken : LebKind → Bool
is_taken Free = false
is_taken Leaf = false
is_taken Index = false
is_taken Bud = false
is_taken Taken = true

-- how many are empty
abbrev pub empty_count : List MainLeb → ℕ
empty_count lebs = count_by (λ leb. is_free leb.kind) lebs

-- how many are the index's
abbrev pub index_count : List MainLeb → ℕ
index_count lebs = count_by (λ leb. is_index leb.kind) lebs

-- how many the log names
abbrev pub bud_count : List MainLeb → ℕ
bud_count lebs = count_by (λ leb. is_bud leb.kind) lebs

-- how many a running commit has set aside
abbrev pub taken_count : List MainLeb → ℕ
taken_count lebs = count_by (λ leb. is_taken leb.kind) lebs

-- more bytes are used than a LEB is counted on for, so that no collection gains from it
abbrev pub IsFull : RawGeometry → MainLeb → Type 0
IsFull geo leb = geo.leb_size - leb_reserve geo < leb.used

-- all LEBs of a store in which no collection gains and no commit runs: at most three are buds, those of the heads, and each other LEB with leaves is full
pub record IsPacked (geo : RawGeometry) (space : Space) (lebs : List MainLeb) : Type 0 where
  pub all : length lebs ≡ space.main
  pub used : sum_by (λ leb. leb.used) lebs ≤ space.used + space.held
  pub buds : bud_count lebs ≤ 3
  pub none_taken : taken_count lebs ≡ 0
  pub full : All (λ leb. leb.kind ≡ Leaf → IsFull geo leb) lebs

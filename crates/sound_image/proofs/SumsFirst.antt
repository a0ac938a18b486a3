-- The sums of main LEBs are right, or one is wrong first.
use Rattle.std.proofs.Common.{◌≡◌, ℕ, suc, ◌+◌, ◌-◌, ◌<◌, ◌≤◌, nat_lt, Bool, true, false, List, [], ◌∷◌, Some, None, slice_get, refl, ap, sym, ◌∙◌, inl, inr, arith}
use Rattle.std.specs.Prelude.{◌⊎◌, ◌≢◌, if◌then◌else◌}
use Rattle.std.proofs.lemmas.Bool.{cases_eq, cases_lt, le-ltb, ltb-false}
use Rattle.ubifs_base.specs.Areas.{main_first}
use Rattle.ubifs_base.specs.declared.raw_geometry.RawGeometry.{RawGeometry}
use Rattle.media_lpt.specs.declared.lprop.Lprop.{Lprop}
use Rattle.index_media.specs.PlacedRow.{PlacedRow}
use Rattle.sound_image.specs.Breaches.{IsWrongSum}
use Rattle.sound_image.specs.Properties.{prop_of}
use Rattle.sound_image.specs.Space.{HasSums, committed_bytes}
use Rattle.sound_image.specs.Wrong.{IsFirstWrong, Wrong, differs}
use Rattle.sound_image.proofs.WorkedRows.{not_before, prop_same}

-- a main LEB's properties are told by its number among them
in_main : (geo : RawGeometry) (props : List Lprop) (lnum : ℕ) (prop : Lprop) → prop_of geo props lnum ≡ Some prop → (main_first geo ≤ lnum) × (slice_get props (lnum - main_first geo) ≡ Some prop)
in_main geo props lnum prop has = by (nat_lt lnum (main_first geo)) refl has
  where
    by : (below : Bool) → nat_lt lnum (main_first geo) ≡ below → (if below then None else slice_get props (lnum - main_first geo)) ≡ Some prop → (main_first geo ≤ lnum) × (slice_get props (lnum - main_first geo) ≡ Some prop)
    by true e k = absurd cc
    by false e k = (ltb-false lnum (main_first geo) e, k)

of_main : (geo : RawGeometry) (props : List Lprop) (i : ℕ) (prop : Lprop) → slice_get props i ≡ Some prop → prop_of geo props (main_first geo + i) ≡ Some prop
of_main geo props i prop h =
    let low : nat_lt (main_first geo + i) (main_first geo) ≡ false = le-ltb (main_first geo + i) (main_first geo) (omega arith) in
    let same : main_first geo + i - main_first geo ≡ i = omega arith in
    ap (λ (b : Bool). if b then None else slice_get props (main_first geo + i - main_first geo)) low ∙ ap (slice_get props) same ∙ h

-- the bytes that are told of a LEB
abbrev told_bytes : PlacedRow → ℕ → Lprop → ℕ
told_bytes placed lnum prop = prop.free + prop.dirty + committed_bytes placed lnum

-- all before this one are right
abbrev AreRightBelow : RawGeometry → List Lprop → PlacedRow → ℕ → Type 0
AreRightBelow geo props placed i = (lnum : ℕ) (prop : Lprop) → prop_of geo props lnum ≡ Some prop → lnum < main_first geo + i → told_bytes placed lnum prop ≡ geo.leb_size

abbrev pub SumsOrFirst : RawGeometry → List Lprop → PlacedRow → Type 0
SumsOrFirst geo props placed = HasSums geo props placed ⊎ ((at : Wrong) × IsFirstWrong (IsWrongSum geo props placed) at)

-- the one of this number
one_there : (geo : RawGeometry) (props : List Lprop) (i lnum : ℕ) (p prop : Lprop) → slice_get props i ≡ Some p → prop_of geo props lnum ≡ Some prop → lnum ≡ main_first geo + i → p ≡ prop
one_there geo props i lnum p prop get has here =
    let there = (in_main geo props lnum prop has).1 in
    let same : i ≡ lnum - main_first geo = omega (arith, here) in
    prop_same p prop (sym get ∙ ap (slice_get props) same ∙ there)

wrong_here : (geo : RawGeometry) (props : List Lprop) (placed : PlacedRow) (i : ℕ) (p : Lprop) → slice_get props i ≡ Some p → AreRightBelow geo props placed i → told_bytes placed (main_first geo + i) p ≢ geo.leb_size
    → IsFirstWrong (IsWrongSum geo props placed) (record { lnum = main_first geo + i; offs = 0; misfit = differs geo.leb_size (told_bytes placed (main_first geo + i) p) })
wrong_here geo props placed i p get right other =
    let lnum : ℕ = main_first geo + i in
    let at : Wrong = record { lnum = lnum; offs = 0; misfit = differs geo.leb_size (told_bytes placed lnum p) } in
    record {
      wrong = record { prop = p; has = of_main geo props i p get; start = refl; other = other; values = refl };
      least = λ found wrong.
          let low : lnum ≤ found.lnum = elim (cases_lt found.lnum lnum) [
            | inl less ↦ absurd (wrong.other (right found.lnum wrong.prop wrong.has less))
            | inr high ↦ high
          ] in
          let values : found.lnum ≡ lnum → found.misfit ≡ differs geo.leb_size (told_bytes placed lnum p) = λ here.
          wrong.values ∙ ap (λ (k : ℕ). differs geo.leb_size (told_bytes placed k wrong.prop)) here ∙ ap (λ (q : Lprop). differs geo.leb_size (told_bytes placed lnum q)) (sym (one_there geo props i found.lnum p wrong.prop get wrong.has here)) in
          not_before found at low (λ e. omega arith) (λ e f. values e);
    }

search : (geo : RawGeometry) (props : List Lprop) (placed : PlacedRow) (i : ℕ) (rest : List Lprop) → ((k : ℕ) → slice_get props (i + k) ≡ slice_get rest k) → AreRightBelow geo props placed i → SumsOrFirst geo props placed
search geo props placed i [] same right = inl (λ lnum prop has. elim (cases_lt lnum (main_first geo + i)) [
  | inl less ↦ right lnum prop has less
  | inr high ↦
      let there = in_main geo props lnum prop has in
      let low = there.0 in
      let e : lnum - main_first geo ≡ i + (lnum - main_first geo - i) = omega (arith, low, high) in
      let none : None ≡ Some prop = sym (same (lnum - main_first geo - i)) ∙ ap (slice_get props) (sym e) ∙ there.1 in
      absurd cc
])
search geo props placed i (p ∷ rest) same right =
    let zero_more : i + 0 ≡ i = omega arith in
    let get : slice_get props i ≡ Some p = ap (slice_get props) (sym zero_more) ∙ same 0 in
    elim (cases_eq (told_bytes placed (main_first geo + i) p) geo.leb_size) [
      | inl whole ↦
          let next : (k : ℕ) → slice_get props (suc i + k) ≡ slice_get rest k = λ k. let e : suc i + k ≡ i + suc k = omega arith in ap (slice_get props) e ∙ same (suc k) in
          let below : AreRightBelow geo props placed (suc i) = λ lnum prop has less. elim (cases_lt lnum (main_first geo + i)) [
            | inl lower ↦ right lnum prop has lower
            | inr high ↦
                let here : lnum ≡ main_first geo + i = omega (arith, less, high) in
                let own = one_there geo props i lnum p prop get has here in
                ap (λ (k : ℕ). told_bytes placed k prop) here ∙ ap (λ (q : Lprop). told_bytes placed (main_first geo + i) q) (sym own) ∙ whole
          ] in
          search geo props placed (suc i) rest next below
      | inr other ↦ inr (record { lnum = main_first geo + i; offs = 0; misfit = differs geo.leb_size (told_bytes placed (main_first geo + i) p) }, wrong_here geo props placed i p get right other)
    ]

pub sums_or_first : (geo : RawGeometry) (props : List Lprop) (placed : PlacedRow) → SumsOrFirst geo props placed
sums_or_first geo props placed = search geo props placed 0 props (λ k. let e : 0 + k ≡ k = omega arith in ap (slice_get props) e) (λ lnum prop has less. let there = (in_main geo props lnum prop has).0 in absurd (omega (arith, there, less)))

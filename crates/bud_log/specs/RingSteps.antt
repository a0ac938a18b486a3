-- Steps round the ring, and how many LEBs of it a log takes.
use Rattle.std.proofs.Common.{◌≡◌, ◌⊎◌, inl, inr, ℕ, ◌+◌, ◌-◌, ◌<◌, ◌≤◌, Bool, true, List, [], ◌∷◌, ◌++◌, refl, ap, sym, ◌∙◌, subst, arith}
use Rattle.std.specs.Prelude.{◌≢◌, if◌then◌else◌}
use Rattle.std.proofs.lemmas.Bool.{cases_Bool, cases_lt, lt-ltb, le-ltb}
use Rattle.ubifs_base.specs.Areas.{lpt_first}
use Rattle.ubifs_base.specs.declared.raw_geometry.RawGeometry.{RawGeometry}
use Rattle.bud_log.specs.Log.{IsLogLeb, next_leb, Run, log_end_of}
use Rattle.bud_log.specs.LogAt.{steps_to}
use Rattle.bud_log.specs.LogLaws.{next_in}
use Rattle.bud_log.specs.LogText.{LogText, is_start_alone}
use Rattle.bud_log.specs.RingRuns.{next_here, next_round, last_end_of, end_then}
use Rattle.bud_log.specs.Writing.{last_end}
use Rattle.bud_log.specs.declared.log_end.LogEnd.{LogEnd}

-- by which way
pub steps_are : (geo : RawGeometry) (from lnum : ℕ) → ((lnum < from) × (steps_to geo from lnum ≡ lnum + geo.log_lebs - from)) ⊎ ((from ≤ lnum) × (steps_to geo from lnum ≡ lnum - from))
steps_are geo from lnum = elim (cases_lt lnum from) [
  | inl below ↦ inl (below, rw (lt-ltb lnum from below) refl)
  | inr above ↦ inr (above, rw (le-ltb lnum from above) refl)
]

pub next_is : (geo : RawGeometry) (lnum : ℕ) → ((lnum + 1 < 3 + geo.log_lebs) × (next_leb geo lnum ≡ lnum + 1)) ⊎ ((3 + geo.log_lebs ≤ lnum + 1) × (next_leb geo lnum ≡ 3))
next_is geo lnum = elim (cases_lt (lnum + 1) (lpt_first geo)) [
  | inl here ↦ inl (here, next_here geo lnum here)
  | inr round ↦ inr (round, next_round geo lnum round)
]

-- one step more, if it doesn't lead to the first again
pub steps_more : (geo : RawGeometry) (from lnum : ℕ) → IsLogLeb geo from → IsLogLeb geo lnum → next_leb geo lnum ≢ from → steps_to geo from (next_leb geo lnum) ≡ steps_to geo from lnum + 1
steps_more geo from lnum f l ne =
    let f1 = f.low in
    let f2 = f.high in
    let l1 = l.low in
    let l2 = l.high in
    let next = next_leb geo lnum in
    elim (steps_are geo from lnum) [
      | inl (below, s) ↦ elim (next_is geo lnum) [
        | inl (here, n) ↦ elim (steps_are geo from next) [ inl (lower, t) ↦ omega (arith, f1, f2, l1, l2, below, s, here, n, lower, t) | inr (upper, t) ↦ absurd (ne (omega (arith, below, n, upper))) ]
        | inr (round, n) ↦ absurd (omega (arith, f1, f2, l1, l2, below, round))
      ]
      | inr (above, s) ↦ elim (next_is geo lnum) [
        | inl (here, n) ↦ elim (steps_are geo from next) [ inl (lower, t) ↦ absurd (omega (arith, above, n, lower)) | inr (upper, t) ↦ omega (arith, above, s, n, t) ]
        | inr (round, n) ↦ elim (steps_are geo from next) [ inl (lower, t) ↦ omega (arith, f1, f2, l1, l2, above, s, round, n, lower, t) | inr (upper, t) ↦ absurd (ne (omega (arith, f1, n, upper))) ]
      ]
    ]

-- a log ends no further round the ring than its last text
pub end_near : (c : ℕ → List ℕ) (geo : RawGeometry) (from start lnum past : ℕ) (before : LogEnd) (texts : List LogText) → IsLogLeb geo from → IsLogLeb geo before.lnum → lnum ≡ next_leb geo before.lnum → Run c geo from start lnum texts past
    → steps_to geo from (log_end_of before texts).lnum ≤ steps_to geo from (last_end before texts).lnum
end_near c geo from start lnum past before [] f l e run = omega arith
end_near c geo from start lnum past before (text ∷ []) f l e run =
    let there : text.ends.lnum ≡ next_leb geo before.lnum = run.1.here ∙ e in
    let more = steps_more geo from before.lnum f l (λ same. run.0 (e ∙ same)) in
    let at : steps_to geo from text.ends.lnum ≡ steps_to geo from (next_leb geo before.lnum) = ap (steps_to geo from) there in
    let P : Bool → Type 0 = λ b. steps_to geo from (if b then before else text.ends).lnum ≤ steps_to geo from text.ends.lnum in
    elim (cases_Bool (is_start_alone text.nodes)) [ inl alone ↦ subst P (sym alone) (omega (arith, more, at)) | inr other ↦ subst P (sym other) (omega arith) ]
end_near c geo from start lnum past before (text ∷ (other ∷ texts)) f l e run =
    let P : ℕ → Type 0 = λ n. IsLogLeb geo n in
    let l2 : IsLogLeb geo text.ends.lnum = subst P (sym (run.1.here ∙ e)) (next_in geo before.lnum l) in
    end_near c geo from start (next_leb geo lnum) past text.ends (other ∷ texts) f l2 (ap (next_leb geo) (sym run.1.here)) run.3

last_same : (before : LogEnd) (texts : List LogText) → last_end_of before texts ≡ last_end before texts
last_same before [] = refl
last_same before (text ∷ texts) = last_same text.ends texts

-- behind a last commit start alone it ends where the texts before do
pub end_alone : (before : LogEnd) (texts : List LogText) (text : LogText) → is_start_alone text.nodes ≡ true → log_end_of before (texts ++ text ∷ []) ≡ last_end before texts
end_alone before texts text alone =
    let P : Bool → Type 0 = λ b. (if b then last_end_of before texts else text.ends) ≡ last_end_of before texts in
    end_then before texts text ∙ subst P (sym alone) refl ∙ last_same before texts

-- Steps round the ring.
use Rattle.std.proofs.Common.{◌≡◌, inl, inr, ℕ, ◌+◌, ◌-◌, ◌<◌, ◌≤◌, ◌==◌, Bool, true, false, refl, ap, sym, ◌∙◌, subst, arith}
use Rattle.std.specs.Prelude.{◌≢◌}
use Rattle.std.proofs.lemmas.Bool.{cases_eq, cases_Bool, eq-eqb, ne_eqb, cases_lt}
use Rattle.ubifs_base.specs.declared.raw_geometry.RawGeometry.{RawGeometry}
use Rattle.bud_log.specs.Log.{IsLogLeb, next_leb}
use Rattle.bud_log.specs.LogAt.{LogAt, IsLogStart, steps_to, used_lebs, most_lebs, IsWithin, has_room, IsLogFull, lnum_at, ending, starting, without_old_sections}
use Rattle.bud_log.specs.LogLaws.{next_in}
use Rattle.bud_log.specs.RingRuns.{lebs_left_of, left_below, left_above}
use Rattle.bud_log.specs.RingSteps.{steps_are, next_is, steps_more}

-- one step more
pub steps_next : (geo : RawGeometry) (from lnum : ℕ) → IsLogLeb geo from → IsLogLeb geo lnum → steps_to geo from lnum + 1 < geo.log_lebs → steps_to geo from (next_leb geo lnum) ≡ steps_to geo from lnum + 1
steps_next geo from lnum f l room =
    let f1 = f.low in
    let f2 = f.high in
    let l1 = l.low in
    let l2 = l.high in
    let next = next_leb geo lnum in
    elim (steps_are geo from lnum) [
      | inl (below, s) ↦ elim (next_is geo lnum) [
        | inl (here, n) ↦ elim (steps_are geo from next) [ inl (lower, t) ↦ omega (arith, f1, f2, l1, l2, below, s, here, n, lower, t, room) | inr (upper, t) ↦ absurd (omega (arith, f1, f2, l1, l2, below, s, here, n, upper, t, room)) ]
        | inr (round, n) ↦ absurd (omega (arith, f1, f2, l1, l2, below, round))
      ]
      | inr (above, s) ↦ elim (next_is geo lnum) [
        | inl (here, n) ↦ elim (steps_are geo from next) [ inl (lower, t) ↦ absurd (omega (arith, above, n, lower)) | inr (upper, t) ↦ omega (arith, above, s, n, t) ]
        | inr (round, n) ↦ elim (steps_are geo from next) [ inl (lower, t) ↦ omega (arith, f1, f2, l1, l2, above, s, round, n, lower, t, room) | inr (upper, t) ↦ absurd (omega (arith, f1, f2, l1, l2, above, s, round, n, upper, t, room)) ]
      ]
    ]

pub steps_none : (geo : RawGeometry) (from : ℕ) → steps_to geo from from ≡ 0
steps_none geo from = elim (steps_are geo from from) [ inl (below, s) ↦ absurd (omega (arith, below)) | inr (above, s) ↦ omega (arith, s) ]

-- the next LEB is none in which a section starts that is needed
pub next_free : (at : LogAt) (from : ℕ) → IsLogLeb at.geo at.first → IsLogLeb at.geo at.lnum → steps_to at.geo at.first at.section ≤ steps_to at.geo at.first at.lnum → steps_to at.geo at.first at.lnum + 1 < at.geo.log_lebs → IsLogStart at from
    → next_leb at.geo at.lnum ≢ from
next_free at from f l way room (inl first) = λ e.
    let P : ℕ → Type 0 = λ n. steps_to at.geo at.first n ≡ steps_to at.geo at.first at.lnum + 1 in
    let more = subst P (e ∙ first) (steps_next at.geo at.first at.lnum f l room) in
    let none = steps_none at.geo at.first in
    absurd (omega (arith, more, none))
next_free at from f l way room (inr section) = λ e.
    let P : ℕ → Type 0 = λ n. steps_to at.geo at.first n ≡ steps_to at.geo at.first at.lnum + 1 in
    let more = subst P (e ∙ section) (steps_next at.geo at.first at.lnum f l room) in
    absurd (omega (arith, more, way))

-- and the way to the present section leads on to it
pub way_next : (at : LogAt) → IsLogLeb at.geo at.first → IsLogLeb at.geo at.lnum → steps_to at.geo at.first at.section ≤ steps_to at.geo at.first at.lnum → steps_to at.geo at.first at.lnum + 1 < at.geo.log_lebs
    → steps_to at.geo at.first at.section ≤ steps_to at.geo at.first (next_leb at.geo at.lnum)
way_next at f l way room = let more = steps_next at.geo at.first at.lnum f l room in omega (arith, more, way)

pub steps_small : (geo : RawGeometry) (from lnum : ℕ) → IsLogLeb geo from → IsLogLeb geo lnum → steps_to geo from lnum < geo.log_lebs
steps_small geo from lnum f l =
    let f1 = f.low in
    let f2 = f.high in
    let l1 = l.low in
    let l2 = l.high in
    elim (steps_are geo from lnum) [ inl (below, s) ↦ omega (arith, f1, f2, l1, l2, below, s) | inr (above, s) ↦ omega (arith, f1, f2, l1, l2, above, s) ]

-- LEBs as many steps away are one
pub same_steps : (geo : RawGeometry) (from a b : ℕ) → IsLogLeb geo from → IsLogLeb geo a → IsLogLeb geo b → steps_to geo from a ≡ steps_to geo from b → a ≡ b
same_steps geo from a b f g h e =
    let f1 = f.low in
    let f2 = f.high in
    let a1 = g.low in
    let a2 = g.high in
    let b1 = h.low in
    let b2 = h.high in
    elim (steps_are geo from a) [
      | inl (p, s) ↦ elim (steps_are geo from b) [ inl (q, t) ↦ omega (arith, f1, f2, a1, a2, b1, b2, p, s, q, t, e) | inr (q, t) ↦ absurd (omega (arith, f1, f2, a1, a2, b1, b2, p, s, q, t, e)) ]
      | inr (p, s) ↦ elim (steps_are geo from b) [ inl (q, t) ↦ absurd (omega (arith, f1, f2, a1, a2, b1, b2, p, s, q, t, e)) | inr (q, t) ↦ omega (arith, f1, f2, a1, a2, b1, b2, p, s, q, t, e) ]
    ]

-- on the way to a LEB
pub steps_split : (geo : RawGeometry) (first section lnum : ℕ) → IsLogLeb geo first → IsLogLeb geo section → IsLogLeb geo lnum → steps_to geo first section ≤ steps_to geo first lnum
    → steps_to geo first section + steps_to geo section lnum ≡ steps_to geo first lnum
steps_split geo first section lnum f s l way =
    let f1 = f.low in
    let f2 = f.high in
    let s1 = s.low in
    let s2 = s.high in
    let l1 = l.low in
    let l2 = l.high in
    elim (steps_are geo first section) [
      | inl (a, x) ↦ elim (steps_are geo first lnum) [
        | inl (b, y) ↦ elim (steps_are geo section lnum) [ inl (c, z) ↦ absurd (omega (arith, f1, f2, s1, s2, l1, l2, a, x, b, y, c, z, way)) | inr (c, z) ↦ omega (arith, f1, f2, s1, s2, l1, l2, a, x, b, y, c, z, way) ]
        | inr (b, y) ↦ absurd (omega (arith, f1, f2, s1, s2, l1, l2, a, x, b, y, way))
      ]
      | inr (a, x) ↦ elim (steps_are geo first lnum) [
        | inl (b, y) ↦ elim (steps_are geo section lnum) [ inl (c, z) ↦ omega (arith, f1, f2, s1, s2, l1, l2, a, x, b, y, c, z, way) | inr (c, z) ↦ absurd (omega (arith, f1, f2, s1, s2, l1, l2, a, x, b, y, c, z, way)) ]
        | inr (b, y) ↦ elim (steps_are geo section lnum) [ inl (c, z) ↦ absurd (omega (arith, f1, f2, s1, s2, l1, l2, a, x, b, y, c, z, way)) | inr (c, z) ↦ omega (arith, f1, f2, s1, s2, l1, l2, a, x, b, y, c, z, way) ]
      ]
    ]

-- from a LEB behind another on, round the ring to that one
steps_round : (geo : RawGeometry) (first from lnum : ℕ) → IsLogLeb geo first → IsLogLeb geo from → IsLogLeb geo lnum → steps_to geo first lnum < steps_to geo first from
    → steps_to geo first from + steps_to geo from lnum ≡ steps_to geo first lnum + geo.log_lebs
steps_round geo first from lnum f g l behind =
    let f1 = f.low in
    let f2 = f.high in
    let g1 = g.low in
    let g2 = g.high in
    let l1 = l.low in
    let l2 = l.high in
    elim (steps_are geo first from) [
      | inl (a, x) ↦ elim (steps_are geo first lnum) [
        | inl (b, y) ↦ elim (steps_are geo from lnum) [ inl (c, z) ↦ omega (arith, f1, f2, g1, g2, l1, l2, a, x, b, y, c, z, behind) | inr (c, z) ↦ absurd (omega (arith, f1, f2, g1, g2, l1, l2, a, x, b, y, c, z, behind)) ]
        | inr (b, y) ↦ elim (steps_are geo from lnum) [ inl (c, z) ↦ absurd (omega (arith, f1, f2, g1, g2, l1, l2, a, x, b, y, c, z, behind)) | inr (c, z) ↦ omega (arith, f1, f2, g1, g2, l1, l2, a, x, b, y, c, z, behind) ]
      ]
      | inr (a, x) ↦ elim (steps_are geo first lnum) [
        | inl (b, y) ↦ absurd (omega (arith, f1, f2, g1, g2, l1, l2, a, x, b, y, behind))
        | inr (b, y) ↦ elim (steps_are geo from lnum) [ inl (c, z) ↦ omega (arith, f1, f2, g1, g2, l1, l2, a, x, b, y, c, z, behind) | inr (c, z) ↦ absurd (omega (arith, f1, f2, g1, g2, l1, l2, a, x, b, y, c, z, behind)) ]
      ]
    ]

-- how many LEBs lie before a LEB is how many steps lead to it
left_steps : (geo : RawGeometry) (from lnum : ℕ) → lebs_left_of geo from lnum ≡ steps_to geo lnum from
left_steps geo from lnum = elim (cases_lt from lnum) [
  | inl above ↦ elim (steps_are geo lnum from) [
    | inl (p, s) ↦ let l = left_above geo from lnum above in omega (arith, p, s, l)
    | inr (p, s) ↦ absurd (omega (arith, above, p))
  ]
  | inr below ↦ elim (steps_are geo lnum from) [
    | inl (p, s) ↦ absurd (omega (arith, below, p))
    | inr (p, s) ↦ let l = left_below geo from lnum below in omega (arith, p, s, l)
  ]
]

-- a LEB before a section isn't reached from there to a LEB of it
pub before_left : (geo : RawGeometry) (first section lnum k : ℕ) → IsLogLeb geo first → IsLogLeb geo section → IsLogLeb geo lnum → IsLogLeb geo k → steps_to geo first k < steps_to geo first section → steps_to geo first section ≤ steps_to geo first lnum
    → lebs_left_of geo section k ≤ lebs_left_of geo section (next_leb geo lnum)
before_left geo first section lnum k f s l h before way =
    let next = next_leb geo lnum in
    let near = steps_split geo first k section f h s (omega (arith, before)) in
    let left = left_steps geo section k in
    let last = left_steps geo section next in
    elim (cases_eq next first) [
      | inl same ↦
          let far : steps_to geo next section ≡ steps_to geo first section = ap (λ (n : ℕ). steps_to geo n section) same in
          omega (arith, near, left, last, far)
      | inr ne ↦
          let more = steps_more geo first lnum f l ne in
          let small = steps_small geo first lnum f l in
          let far = steps_round geo first next section f (next_in geo lnum l) s (omega (arith, way, more)) in
          omega (arith, near, left, last, more, small, far)
    ]

-- No more LEBs are in use than may be.

-- after a bud was opened
pub within_opened : (here : Bool) (at : LogAt) (offs : ℕ) → here ≡ has_room at → IsLogLeb at.geo at.first → IsLogLeb at.geo at.lnum → (IsLogFull at → ⊥) → IsWithin at → IsWithin (ending at (lnum_at here at) offs)
within_opened here at offs same f l free h =
    let P : Bool → Type 0 = λ r. IsWithin (ending at (lnum_at r at) offs) in
    subst P (sym same) (elim (cases_Bool (has_room at)) [
      | inl roomy ↦ subst P (sym roomy) h
      | inr there ↦ elim (cases_lt (used_lebs at) (most_lebs at)) [
        | inl more ↦ let step = steps_next at.geo at.first at.lnum f l (omega (arith, more)) in subst P (sym there) (omega (arith, more, step))
        | inr full ↦ absurd (free (there, full))
      ]
    ])

-- after a section was started
pub within_started : (at : LogAt) (offs : ℕ) → IsLogLeb at.geo at.first → IsLogLeb at.geo at.lnum → next_leb at.geo at.lnum ≢ at.first → used_lebs at + 1 < at.geo.log_lebs → IsWithin (starting at (next_leb at.geo at.lnum) offs)
within_started at offs f l ne room =
    let next = next_leb at.geo at.lnum in
    let step = steps_next at.geo at.first at.lnum f l (omega (arith, room)) in
    let other : (at.first == next) ≡ false = ne_eqb at.first next (λ e. ne (sym e)) in
    rw other (omega (arith, step, room))

-- after the sections before were unmapped
pub within_ended : (at : LogAt) → IsLogLeb at.geo at.first → IsLogLeb at.geo at.section → IsLogLeb at.geo at.lnum → steps_to at.geo at.first at.section ≤ steps_to at.geo at.first at.lnum → IsWithin at → IsWithin (without_old_sections at)
within_ended at f s l way h =
    let split = steps_split at.geo at.first at.section at.lnum f s l way in
    let one : (at.section == at.section) ≡ true = eq-eqb at.section at.section refl in
    elim (cases_eq at.first at.section) [
      | inl same ↦
          let old : (at.first == at.section) ≡ true = eq-eqb at.first at.section same in
          let most : most_lebs at ≡ at.geo.log_lebs - 2 = rw old refl in
          rw one (omega (arith, split, h, most))
      | inr ne ↦
          let old : (at.first == at.section) ≡ false = ne_eqb at.first at.section ne in
          let most : most_lebs at ≡ at.geo.log_lebs - 1 = rw old refl in
          let some : 0 < steps_to at.geo at.first at.section = elim (cases_eq (steps_to at.geo at.first at.section) 0) [
            | inl none ↦ absurd (ne (same_steps at.geo at.first at.first at.section f f s (steps_none at.geo at.first ∙ sym none)))
            | inr more ↦ omega (arith, more)
          ] in
          rw one (omega (arith, split, h, most, some))
    ]

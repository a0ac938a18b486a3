-- Laws of what is wrong first, which other crates' checks cite.
use Rattle.std.proofs.Common.{◌≡◌, ◌⊎◌, ℕ, ◌<◌, ◌≤◌, nat_lt, Bool, true, false, refl, ap, subst, sym, ◌∙◌, inl, inr, arith}
use Rattle.std.specs.Prelude.{◌==◌, ◌&&◌, ◌||◌, if◌then◌else◌, Option, Some, None}
use Rattle.std.proofs.lemmas.Bool.{cases_Bool, eq-eqb, ltb-false, le-ltb, or_parts, ltb-true, cases_lt, ne_eqb}
use Rattle.sound_image.specs.Wrong.{IsFirstWrong, Misfit, Wrong, comes_before, differs, feature_number, is_lesser, is_told_before, needs}
use Rattle.image_check.specs.WrongValues.{IsFirstOf, sooner_of, wrong_at}
use Rattle.image_check.specs.declared.wrong_value.WrongValue.{WrongValue}

-- a pair isn't lesser than another: the other is
abbrev NotLesser : ℕ → ℕ → ℕ → ℕ → Type 0
NotLesser a b c d = (c < a) ⊎ ((c ≡ a) × (d ≤ b))

with_true : (a b : Bool) → a ≡ true → (a && b) ≡ false → b ≡ false
with_true true b e h = h
with_true false b e h = absurd cc

either_false : (a b : Bool) → a ≡ false → b ≡ false → (a || b) ≡ false
either_false false false h k = refl
either_false true b h k = absurd cc
either_false false true h k = absurd cc

left_false : (a b : Bool) → a ≡ false → (a && b) ≡ false
left_false false b h = refl
left_false true b h = absurd cc

right_false : (a b : Bool) → b ≡ false → (a && b) ≡ false
right_false true b h = h
right_false false b h = refl

other_not : (a b : ℕ) → a < b → (b == a) ≡ false
other_not a b h = ne_eqb b a (λ e. omega (arith, h, e))

not_lesser_parts : (a b c d : ℕ) → is_lesser (a, b) (c, d) ≡ false → NotLesser a b c d
not_lesser_parts a b c d h =
    let x = or_parts (nat_lt a c) ((a == c) && nat_lt b d) h in
    let p = ltb-false a c x.0 in
    elim (cases_lt c a) [
      | inl less ↦ inl less
      | inr not ↦
          let e : a ≡ c = omega (arith, p, not) in
          inr (sym e, ltb-false b d (with_true (a == c) (nat_lt b d) (eq-eqb a c e) x.1))
    ]

not_lesser_of : (a b c d : ℕ) → NotLesser a b c d → is_lesser (a, b) (c, d) ≡ false
not_lesser_of a b c d (inl less) = either_false (nat_lt a c) ((a == c) && nat_lt b d) (le-ltb a c (omega (arith, less))) (left_false (a == c) (nat_lt b d) (other_not c a less))
not_lesser_of a b c d (inr (e, less)) = either_false (nat_lt a c) ((a == c) && nat_lt b d) (le-ltb a c (omega (arith, e))) (right_false (a == c) (nat_lt b d) (le-ltb b d less))

not_lesser_then : (a b c d e f : ℕ) → is_lesser (c, d) (a, b) ≡ false → is_lesser (e, f) (c, d) ≡ false → is_lesser (e, f) (a, b) ≡ false
not_lesser_then a b c d e f h k = not_lesser_of e f a b (elim (not_lesser_parts c d a b h) [
  | inl less ↦ elim (not_lesser_parts e f c d k) [ inl more ↦ inl (omega (arith, less, more)) | inr same ↦ inl (let s = same.0 in omega (arith, less, s)) ]
  | inr same ↦ elim (not_lesser_parts e f c d k) [
    | inl more ↦ inl (let s = same.0 in omega (arith, s, more))
    | inr again ↦ inr (same.0 ∙ again.0, (let s = same.1 in let t = again.1 in omega (arith, s, t)))
  ]
])

lesser_not : (a b c d : ℕ) → is_lesser (a, b) (c, d) ≡ true → is_lesser (c, d) (a, b) ≡ false
lesser_not a b c d h = elim (cases_lt a c) [
  | inl less ↦ not_lesser_of c d a b (inl less)
  | inr not ↦ elim (cases_lt c a) [
    | inl more ↦ let e = sym h ∙ not_lesser_of a b c d (inl more) in absurd cc
    | inr same ↦ elim (cases_lt b d) [
      | inl less ↦ not_lesser_of c d a b (inr (omega (arith, not, same), omega (arith, less)))
      | inr least ↦ let e = sym h ∙ not_lesser_of a b c d (inr (omega (arith, not, same), least)) in absurd cc
    ]
  ]
]

-- ---- what is wrong
not_told_then : (a b c : Misfit) → is_told_before b a ≡ false → is_told_before c b ≡ false → is_told_before c a ≡ false
not_told_then (needs a) (needs b) (needs c) h k =
    let p = ltb-false (feature_number b) (feature_number a) h in
    let q = ltb-false (feature_number c) (feature_number b) k in
    le-ltb (feature_number c) (feature_number a) (omega (arith, p, q))
not_told_then (needs a) (needs b) (differs wanted found) h k = refl
not_told_then (needs a) (differs wanted found) (needs c) h k = absurd cc
not_told_then (needs a) (differs wanted found) (differs other there) h k = refl
not_told_then (differs wanted found) (needs b) c h k = absurd cc
not_told_then (differs wanted found) (differs other there) (needs c) h k = absurd cc
not_told_then (differs wanted found) (differs other there) (differs w f) h k = not_lesser_then wanted found other there w f h k

-- one place isn't before another: the other is lesser, or they are the same and what is wrong there isn't told before
abbrev NotBefore : Wrong → Wrong → Type 0
NotBefore a b = ((b.lnum < a.lnum) ⊎ ((b.lnum ≡ a.lnum) × (b.offs < a.offs))) ⊎ ((b.lnum ≡ a.lnum) × (b.offs ≡ a.offs) × (is_told_before a.misfit b.misfit ≡ false))

not_before_parts : (a b : Wrong) → comes_before a b ≡ false → NotBefore a b
not_before_parts a b h =
    let x = or_parts (is_lesser (a.lnum, a.offs) (b.lnum, b.offs)) ((a.lnum == b.lnum) && ((a.offs == b.offs) && is_told_before a.misfit b.misfit)) h in
    elim (not_lesser_parts a.lnum a.offs b.lnum b.offs x.0) [
      | inl less ↦ inl (inl less)
      | inr same ↦
          elim (cases_lt b.offs a.offs) [
            | inl less ↦ inl (inr (same.0, less))
            | inr not ↦
                let s = same.1 in
                let o : a.offs ≡ b.offs = omega (arith, s, not) in
                inr (same.0, sym o, with_true (a.offs == b.offs) (is_told_before a.misfit b.misfit) (eq-eqb a.offs b.offs o) (with_true (a.lnum == b.lnum) ((a.offs == b.offs) && is_told_before a.misfit b.misfit) (eq-eqb a.lnum b.lnum (sym same.0)) x.1))
          ]
    ]

not_before_of : (a b : Wrong) → NotBefore a b → comes_before a b ≡ false
not_before_of a b (inl (inl less)) =
    either_false (is_lesser (a.lnum, a.offs) (b.lnum, b.offs)) ((a.lnum == b.lnum) && ((a.offs == b.offs) && is_told_before a.misfit b.misfit))
    (not_lesser_of a.lnum a.offs b.lnum b.offs (inl less))
    (left_false (a.lnum == b.lnum) ((a.offs == b.offs) && is_told_before a.misfit b.misfit) (other_not b.lnum a.lnum less))
not_before_of a b (inl (inr (same, less))) =
    either_false (is_lesser (a.lnum, a.offs) (b.lnum, b.offs)) ((a.lnum == b.lnum) && ((a.offs == b.offs) && is_told_before a.misfit b.misfit))
    (not_lesser_of a.lnum a.offs b.lnum b.offs (inr (same, omega (arith, less))))
    (right_false (a.lnum == b.lnum) ((a.offs == b.offs) && is_told_before a.misfit b.misfit) (left_false (a.offs == b.offs) (is_told_before a.misfit b.misfit) (other_not b.offs a.offs less)))
not_before_of a b (inr (same, here, not)) =
    either_false (is_lesser (a.lnum, a.offs) (b.lnum, b.offs)) ((a.lnum == b.lnum) && ((a.offs == b.offs) && is_told_before a.misfit b.misfit))
    (not_lesser_of a.lnum a.offs b.lnum b.offs (inr (same, omega (arith, here))))
    (right_false (a.lnum == b.lnum) ((a.offs == b.offs) && is_told_before a.misfit b.misfit) (right_false (a.offs == b.offs) (is_told_before a.misfit b.misfit) not))

pub not_before_then : (a b c : Wrong) → comes_before b a ≡ false → comes_before c b ≡ false → comes_before c a ≡ false
not_before_then a b c h k = not_before_of c a (elim (not_before_parts b a h) [
  | inl (inl less) ↦ elim (not_before_parts c b k) [
    | inl (inl more) ↦ inl (inl (omega (arith, less, more)))
    | inl (inr (same, more)) ↦ inl (inl (omega (arith, less, same)))
    | inr (same, here, not) ↦ inl (inl (omega (arith, less, same)))
  ]
  | inl (inr (e, less)) ↦ elim (not_before_parts c b k) [
    | inl (inl more) ↦ inl (inl (omega (arith, e, more)))
    | inl (inr (same, more)) ↦ inl (inr (e ∙ same, omega (arith, less, more)))
    | inr (same, here, not) ↦ inl (inr (e ∙ same, omega (arith, less, here)))
  ]
  | inr (e, o, untold) ↦ elim (not_before_parts c b k) [
    | inl (inl more) ↦ inl (inl (omega (arith, e, more)))
    | inl (inr (same, more)) ↦ inl (inr (e ∙ same, omega (arith, o, more)))
    | inr (same, here, not) ↦ inr (e ∙ same, o ∙ here, not_told_then a.misfit b.misfit c.misfit untold not)
  ]
])

not_told_itself : (a : Misfit) → is_told_before a a ≡ false
not_told_itself (needs f) = le-ltb (feature_number f) (feature_number f) (omega arith)
not_told_itself (differs wanted found) = not_lesser_of wanted found wanted found (inr (refl, omega arith))

pub not_before_itself : (a : Wrong) → comes_before a a ≡ false
not_before_itself a = not_before_of a a (inr (refl, refl, not_told_itself a.misfit))

told_not_both : (a b : Misfit) → is_told_before a b ≡ true → is_told_before b a ≡ false
told_not_both (needs a) (needs b) h = let p = ltb-true (feature_number a) (feature_number b) h in le-ltb (feature_number b) (feature_number a) (omega (arith, p))
told_not_both (needs a) (differs wanted found) h = refl
told_not_both (differs wanted found) (needs b) h = absurd cc
told_not_both (differs wanted found) (differs other there) h = lesser_not wanted found other there h

-- ---- the first of what is wrong
-- the same is wrong
pub first_same : (P Q : Wrong → Type 0) (o : Option WrongValue) → ((at : Wrong) → P at → Q at) → ((at : Wrong) → Q at → P at) → IsFirstOf P o → IsFirstOf Q o
first_same P Q None to from h = λ at wrong. h at (from at wrong)
first_same P Q (Some d) to from h = record { wrong = to (wrong_at d) h.wrong; least = λ other wrong. h.least other (from other wrong) }

-- one place alone is wrong
pub first_alone : (P : Wrong → Type 0) (d : WrongValue) → P (wrong_at d) → ((at : Wrong) → P at → at ≡ wrong_at d) → IsFirstOf P (Some d)
first_alone P d here only = record { wrong = here; least = λ other wrong. (let R : Wrong → Type 0 = λ w. comes_before w (wrong_at d) ≡ false in subst R (sym (only other wrong)) (not_before_itself (wrong_at d))) }

-- if one place is before another, that one isn't before it
pub before_not : (a b : Wrong) → comes_before a b ≡ true → comes_before b a ≡ false
before_not a b h = elim (cases_lt a.lnum b.lnum) [
  | inl less ↦ not_before_of b a (inl (inl less))
  | inr l1 ↦ elim (cases_lt b.lnum a.lnum) [
    | inl more ↦ let e = sym h ∙ not_before_of a b (inl (inl more)) in absurd cc
    | inr l2 ↦
        let l : a.lnum ≡ b.lnum = omega (arith, l1, l2) in
        elim (cases_lt a.offs b.offs) [
          | inl less ↦ not_before_of b a (inl (inr (l, less)))
          | inr o1 ↦ elim (cases_lt b.offs a.offs) [
            | inl more ↦ let e = sym h ∙ not_before_of a b (inl (inr (sym l, more))) in absurd cc
            | inr o2 ↦
                let o : a.offs ≡ b.offs = omega (arith, o1, o2) in
                elim (cases_Bool (is_told_before a.misfit b.misfit)) [
                  | inl told ↦ not_before_of b a (inr (l, o, told_not_both a.misfit b.misfit told))
                  | inr not ↦ let e = sym h ∙ not_before_of a b (inr (sym l, sym o, not)) in absurd cc
                ]
          ]
        ]
  ]
]

-- this is wrong, or that
pub first_of_both : (P Q : Wrong → Type 0) (a b : Option WrongValue) → IsFirstOf P a → IsFirstOf Q b → IsFirstOf (λ at. P at ⊎ Q at) (sooner_of a b)
first_of_both P Q None None h k = λ at wrong. elim wrong [ inl p ↦ h at p | inr q ↦ k at q ]
first_of_both P Q None (Some b) h k = record { wrong = inr k.wrong; least = λ other wrong. elim wrong [ inl p ↦ absurd (h other p) | inr q ↦ k.least other q ] }
first_of_both P Q (Some a) None h k = record { wrong = inl h.wrong; least = λ other wrong. elim wrong [ inl p ↦ h.least other p | inr q ↦ absurd (k other q) ] }
first_of_both P Q (Some a) (Some b) h k =
    let R : Bool → Type 0 = λ t. IsFirstOf (λ at. P at ⊎ Q at) (if t then Some b else Some a) in
    elim (cases_Bool (comes_before (wrong_at b) (wrong_at a))) [
      | inl sooner ↦
          subst R (sym sooner) (record {
            wrong = inr k.wrong;
            least = λ other wrong. elim wrong [ inl p ↦ not_before_then (wrong_at b) (wrong_at a) other (before_not (wrong_at b) (wrong_at a) sooner) (h.least other p) | inr q ↦ k.least other q ];
          })
      | inr not ↦
          subst R (sym not) (record {
            wrong = inl h.wrong;
            least = λ other wrong. elim wrong [ inl p ↦ h.least other p | inr q ↦ not_before_then (wrong_at a) (wrong_at b) other not (k.least other q) ];
          })
    ]

-- ---- LEBs one after another
-- what stands behind a place, or is wrong there in the same way, doesn't come before it
pub not_before_place : (other at : Wrong) → at.lnum ≤ other.lnum → (other.lnum ≡ at.lnum → at.offs ≤ other.offs) → (other.lnum ≡ at.lnum → other.offs ≡ at.offs → other.misfit ≡ at.misfit) → comes_before other at ≡ false
not_before_place other at high later same = not_before_of other at (elim (cases_lt at.lnum other.lnum) [
  | inl less ↦ inl (inl less)
  | inr not ↦
      let l : at.lnum ≡ other.lnum = omega (arith, high, not) in
      let behind = later (sym l) in
      elim (cases_lt at.offs other.offs) [
        | inl less ↦ inl (inr (l, less))
        | inr more ↦ let o : at.offs ≡ other.offs = omega (arith, behind, more) in inr (l, o, ap (λ (m : Misfit). is_told_before m at.misfit) (same (sym l) (sym o)) ∙ not_told_itself at.misfit)
      ]
])

-- what is wrong in a LEB is the first of all if nothing is wrong in a LEB before it, and it is the first in its own
pub first_of_lebs : (IsWrong : Wrong → Type 0) (at : Wrong) → IsWrong at → ((other : Wrong) → IsWrong other → other.lnum < at.lnum → ⊥)
    → ((other : Wrong) → IsWrong other → other.lnum ≡ at.lnum → (at.offs ≤ other.offs) × (other.offs ≡ at.offs → other.misfit ≡ at.misfit)) → IsFirstWrong IsWrong at
first_of_lebs IsWrong at is none here = record {
  wrong = is;
  least = λ other wrong. elim (cases_lt other.lnum at.lnum) [
    | inl less ↦ absurd (none other wrong less)
    | inr high ↦ not_before_place other at high (λ same. (here other wrong same).0) (λ same. (here other wrong same).1)
  ];
}

-- Of what is wrong at some places one is first, since places are in order.
use Rattle.std.proofs.Common.{◌≡◌, ℕ, ◌≤◌, nat_lt, true, false, List, [], ◌∷◌, ◌++◌, refl, subst, inl, inr, arith}
use Rattle.std.specs.Prelude.{◌⊎◌, ◌==◌, ◌&&◌}
use Rattle.std.proofs.lemmas.Bool.{and_left, and_parts, and_right, cases_Bool, cases_eq, eq-eqb, eqb-true, le-ltb, ltb-false, ltb-true, ne_eqb, or_cases, or_from, or_parts}
use Rattle.sound_image.specs.Wrong.{IsOneOf, Misfit, Wrong, comes_before, differs, feature_number, is_lesser, is_told_before, needs}
use Rattle.sound_image.proofs.FirstWrong.{with_true}
use Rattle.sound_image.proofs.Lists.{cons_parts, none_of, one_more}
use Rattle.sound_image.proofs.WorkedRows.{not_lesser_of, told_once}

-- ---- no sooner
-- a pair is no lesser than another
record IsPairBehind (a b c d : ℕ) : Type 0 where
  high : a ≤ c
  later : c ≡ a → b ≤ d

pair_behind : (a b c d : ℕ) → is_lesser (c, d) (a, b) ≡ false → IsPairBehind a b c d
pair_behind a b c d h =
    let x = or_parts (nat_lt c a) ((c == a) && nat_lt d b) h in
    record { high = ltb-false c a x.0; later = λ e. ltb-false d b (with_true (c == a) (nat_lt d b) (eq-eqb c a e) x.1) }

pairs_go_on : (a b c d e f : ℕ) → IsPairBehind a b c d → IsPairBehind c d e f → is_lesser (e, f) (a, b) ≡ false
pairs_go_on a b c d e f h k =
    let p = h.high in
    let q = k.high in
    not_lesser_of e f a b (omega (arith, p, q)) (λ same. let r = h.later (omega (arith, p, q, same)) in let s = k.later (omega (arith, p, q, same)) in omega (arith, r, s))

told_on : (a b c : Misfit) → is_told_before b a ≡ false → is_told_before c b ≡ false → is_told_before c a ≡ false
told_on (needs f) (needs g) (needs h) p q =
    let x = ltb-false (feature_number g) (feature_number f) p in
    let y = ltb-false (feature_number h) (feature_number g) q in
    le-ltb (feature_number h) (feature_number f) (omega (arith, x, y))
told_on (needs f) (needs g) (differs wanted found) p q = refl
told_on (needs f) (differs other there) (needs h) p q = absurd cc
told_on (needs f) (differs other there) (differs wanted found) p q = refl
told_on (differs first last) (needs g) c p q = absurd cc
told_on (differs first last) (differs other there) (needs h) p q = absurd cc
told_on (differs first last) (differs other there) (differs wanted found) p q =
    pairs_go_on first last other there wanted found (pair_behind first last other there p) (pair_behind other there wanted found q)

-- what is wrong is told no sooner than something else
record IsBehind (a b : Wrong) : Type 0 where
  high : a.lnum ≤ b.lnum
  later : b.lnum ≡ a.lnum → a.offs ≤ b.offs
  told : b.lnum ≡ a.lnum → b.offs ≡ a.offs → is_told_before b.misfit a.misfit ≡ false

behind_of : (a b : Wrong) → comes_before b a ≡ false → IsBehind a b
behind_of a b h =
    let x = or_parts (is_lesser (b.lnum, b.offs) (a.lnum, a.offs)) ((b.lnum == a.lnum) && ((b.offs == a.offs) && is_told_before b.misfit a.misfit)) h in
    let pair = pair_behind a.lnum a.offs b.lnum b.offs x.0 in
    record {
      high = pair.high;
      later = pair.later;
      told = λ e f. with_true (b.offs == a.offs) (is_told_before b.misfit a.misfit) (eq-eqb b.offs a.offs f) (with_true (b.lnum == a.lnum) ((b.offs == a.offs) && is_told_before b.misfit a.misfit) (eq-eqb b.lnum a.lnum e) x.1);
    }

no_sooner : (a b : Wrong) → IsBehind a b → comes_before b a ≡ false
no_sooner a b h =
    or_from (is_lesser (b.lnum, b.offs) (a.lnum, a.offs)) ((b.lnum == a.lnum) && ((b.offs == a.offs) && is_told_before b.misfit a.misfit)) (not_lesser_of b.lnum b.offs a.lnum a.offs h.high h.later) (elim (cases_eq b.lnum a.lnum) [
      | inl here ↦ and_right (b.lnum == a.lnum) ((b.offs == a.offs) && is_told_before b.misfit a.misfit) (elim (cases_eq b.offs a.offs) [
        | inl there ↦ and_right (b.offs == a.offs) (is_told_before b.misfit a.misfit) (h.told here there)
        | inr elsewhere ↦ and_left (b.offs == a.offs) (is_told_before b.misfit a.misfit) (ne_eqb b.offs a.offs elsewhere)
      ])
      | inr elsewhere ↦ and_left (b.lnum == a.lnum) ((b.offs == a.offs) && is_told_before b.misfit a.misfit) (ne_eqb b.lnum a.lnum elsewhere)
    ])

-- what is no sooner than one that is no sooner than another is no sooner than that
pub no_sooner_on : (a b c : Wrong) → comes_before b a ≡ false → comes_before c b ≡ false → comes_before c a ≡ false
no_sooner_on a b c h k =
    let x = behind_of a b h in
    let y = behind_of b c k in
    let p = x.high in
    let q = y.high in
    no_sooner a c (record {
      high = omega (arith, p, q);
      later = λ e. let r = x.later (omega (arith, p, q, e)) in let s = y.later (omega (arith, p, q, e)) in omega (arith, r, s);
      told = λ e f.
          let i : b.lnum ≡ a.lnum = omega (arith, p, q, e) in
          let j : c.lnum ≡ b.lnum = omega (arith, p, q, e) in
          let r = x.later i in
          let s = y.later j in
          told_on a.misfit b.misfit c.misfit (x.told i (omega (arith, r, s, f))) (y.told j (omega (arith, r, s, f)));
    })

pub no_sooner_itself : (a : Wrong) → comes_before a a ≡ false
no_sooner_itself a = no_sooner a a (record { high = omega arith; later = λ e. omega arith; told = λ e f. told_once a.misfit })

-- ---- of two, one is no sooner
lesser_first : (a b c d : ℕ) → is_lesser (a, b) (c, d) ≡ true → (a ≤ c) × (c ≡ a → b ≤ d)
lesser_first a b c d h = elim (or_cases (nat_lt a c) ((a == c) && nat_lt b d) h) [
  | inl less ↦ let l = ltb-true a c less in (omega (arith, l), λ e. absurd (omega (arith, l, e)))
  | inr same ↦
      let p = and_parts (a == c) (nat_lt b d) same in
      let e = eqb-true a c p.0 in
      let l = ltb-true b d p.1 in
      (omega (arith, e), λ f. omega (arith, l))
]

lesser_is : (a b c d : ℕ) → is_lesser (a, b) (c, d) ≡ true → (c ≡ a) → d ≡ b → ⊥
lesser_is a b c d h e f = elim (or_cases (nat_lt a c) ((a == c) && nat_lt b d) h) [
  | inl less ↦ let l = ltb-true a c less in omega (arith, l, e)
  | inr same ↦ let l = ltb-true b d (and_parts (a == c) (nat_lt b d) same).1 in omega (arith, l, f)
]

told_one_way : (a b : Misfit) → is_told_before a b ≡ true → is_told_before b a ≡ false
told_one_way (needs f) (needs g) h = let l = ltb-true (feature_number f) (feature_number g) h in le-ltb (feature_number g) (feature_number f) (omega (arith, l))
told_one_way (needs f) (differs wanted found) h = refl
told_one_way (differs wanted found) (needs g) h = absurd cc
told_one_way (differs wanted found) (differs other there) h = let p = lesser_first wanted found other there h in not_lesser_of other there wanted found p.0 p.1

pub one_way : (a b : Wrong) → comes_before a b ≡ true → comes_before b a ≡ false
one_way a b h = elim (or_cases (is_lesser (a.lnum, a.offs) (b.lnum, b.offs)) ((a.lnum == b.lnum) && ((a.offs == b.offs) && is_told_before a.misfit b.misfit)) h) [
  | inl less ↦
      let p = lesser_first a.lnum a.offs b.lnum b.offs less in
      no_sooner a b (record { high = p.0; later = p.1; told = λ e f. absurd (lesser_is a.lnum a.offs b.lnum b.offs less e f) })
  | inr same ↦
      let p = and_parts (a.lnum == b.lnum) ((a.offs == b.offs) && is_told_before a.misfit b.misfit) same in
      let q = and_parts (a.offs == b.offs) (is_told_before a.misfit b.misfit) p.1 in
      let i = eqb-true a.lnum b.lnum p.0 in
      let j = eqb-true a.offs b.offs q.0 in
      no_sooner a b (record { high = omega (arith, i); later = λ e. omega (arith, j); told = λ e f. told_one_way a.misfit b.misfit q.1 })
]

-- ---- the first of a list
record HasFirst (wrongs : List Wrong) : Type 0 where
  first : Wrong
  one : IsOneOf first wrongs
  least : (other : Wrong) → IsOneOf other wrongs → comes_before other first ≡ false

pub head_or : (x y : Wrong) (ys : List Wrong) → IsOneOf y (x ∷ ys) → (x ≡ y) ⊎ IsOneOf y ys
head_or x y ys ([], behind, e) = inl (cons_parts x y ys behind e).0
head_or x y ys (b ∷ before, behind, e) = inr (before, behind, (cons_parts x b ys (before ++ (y ∷ behind)) e).1)

first_of : (x : Wrong) (xs : List Wrong) → HasFirst (x ∷ xs)
first_of x [] = record {
  first = x;
  one = ([], [], refl);
  least = λ other one. elim (head_or x other [] one) [ inl own ↦ subst (λ (w : Wrong). comes_before w x ≡ false) own (no_sooner_itself x) | inr never ↦ absurd (none_of other [] never refl) ];
}
first_of x (y ∷ ys) = by (first_of y ys)
  where
    by : HasFirst (y ∷ ys) → HasFirst (x ∷ y ∷ ys)
    by b = elim (cases_Bool (comes_before x b.first)) [
      | inl before ↦ record {
        first = x;
        one = ([], y ∷ ys, refl);
        least = λ other one. elim (head_or x other (y ∷ ys) one) [
          | inl own ↦ subst (λ (w : Wrong). comes_before w x ≡ false) own (no_sooner_itself x)
          | inr more ↦ no_sooner_on x b.first other (one_way x b.first before) (b.least other more)
        ];
      }
      | inr behind ↦ record {
        first = b.first;
        one = one_more b.first x (y ∷ ys) b.one;
        least = λ other one. elim (head_or x other (y ∷ ys) one) [
          | inl own ↦ subst (λ (w : Wrong). comes_before w b.first ≡ false) own behind
          | inr more ↦ b.least other more
        ];
      }
    ]

pub one_is_first : (x : Wrong) (xs : List Wrong) → (first : Wrong) × IsOneOf first (x ∷ xs) × ((other : Wrong) → IsOneOf other (x ∷ xs) → comes_before other first ≡ false)
one_is_first x xs = let f = first_of x xs in (f.first, f.one, f.least)

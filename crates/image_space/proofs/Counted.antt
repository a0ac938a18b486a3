-- What is counted of a run of numbers, one after another.
use Rattle.std.proofs.Common.{◌≡◌, ℕ, zero, suc, ◌+◌, ◌-◌, ◌<◌, ◌≤◌, Bool, true, false, List, [], ◌∷◌, Option, Some, None, length, refl, ap, sym, ◌∙◌, subst, arith}
use Rattle.std.specs.Prelude.{if◌then◌else◌, filter}
use Rattle.std.specs.List.{find, range_with_len}

-- what is left of a run has a first number
abbrev pub rest_of : ℕ → ℕ → ℕ → List ℕ
rest_of first len at = range_with_len (first + at) (len - at)

pub rest_step : (first len at : ℕ) → at < len → rest_of first len at ≡ (first + at) ∷ rest_of first len (at + 1)
rest_step first len at less =
    let e : len - at ≡ suc (len - (at + 1)) = omega (arith, less) in
    let n : first + at + 1 ≡ first + (at + 1) = omega arith in
    ap (range_with_len (first + at)) e ∙ ap (λ (k : ℕ). (first + at) ∷ range_with_len k (len - (at + 1))) n

pub rest_start : (first len : ℕ) → rest_of first len 0 ≡ range_with_len first len
rest_start first len =
    let n : first + 0 ≡ first = omega arith in
    let e : len - 0 ≡ len = omega arith in
    ap (λ (k : ℕ). range_with_len k (len - 0)) n ∙ ap (range_with_len first) e

pub rest_end : (first len at : ℕ) → len ≤ at → rest_of first len at ≡ []
rest_end first len at done = let e : len - at ≡ 0 = omega (arith, done) in ap (range_with_len (first + at)) e

-- ---- how many pass
-- those so far and those of the rest are all, and those so far are no more than were looked at
pub record CountedSoFar (p : ℕ → Bool) (first len at count : ℕ) : Type 0 where
  pub all : count + length (filter p (rest_of first len at)) ≡ length (filter p (range_with_len first len))
  pub most : count ≤ at

pub counted_start : (p : ℕ → Bool) (first len : ℕ) → CountedSoFar p first len 0 0
counted_start p first len = record {
  all = let e = ap (λ (xs : List ℕ). length (filter p xs)) (rest_start first len) in omega (arith, e);
  most = omega arith;
}

filter_step : (p : ℕ → Bool) (x : ℕ) (xs : List ℕ) (b : Bool) → p x ≡ b → length (filter p (x ∷ xs)) ≡ (if b then 1 else 0) + length (filter p xs)
filter_step p x xs true e = ap (λ (b : Bool). length (if b then x ∷ filter p xs else filter p xs)) e ∙ omega arith
filter_step p x xs false e = ap (λ (b : Bool). length (if b then x ∷ filter p xs else filter p xs)) e ∙ omega arith

pub counted_yes : (p : ℕ → Bool) (first len at count next : ℕ) → at < len → p (first + at) ≡ true → next ≡ count + 1 → CountedSoFar p first len at count → CountedSoFar p first len (at + 1) next
counted_yes p first len at count next less passes is before =
    let whole = before.all in
    let most = before.most in
    let e = ap (λ (xs : List ℕ). length (filter p xs)) (rest_step first len at less) ∙ filter_step p (first + at) (rest_of first len (at + 1)) true passes in
    record { all = omega (arith, whole, e, is); most = omega (arith, most, is) }

pub counted_no : (p : ℕ → Bool) (first len at count next : ℕ) → at < len → p (first + at) ≡ false → next ≡ count → CountedSoFar p first len at count → CountedSoFar p first len (at + 1) next
counted_no p first len at count next less fails is before =
    let whole = before.all in
    let most = before.most in
    let e = ap (λ (xs : List ℕ). length (filter p xs)) (rest_step first len at less) ∙ filter_step p (first + at) (rest_of first len (at + 1)) false fails in
    record { all = omega (arith, whole, e, is); most = omega (arith, most, is) }

pub counted_end : (p : ℕ → Bool) (first len at count : ℕ) → len ≤ at → CountedSoFar p first len at count → count ≡ length (filter p (range_with_len first len))
counted_end p first len at count done before =
    let whole = before.all in
    let e = ap (λ (xs : List ℕ). length (filter p xs)) (rest_end first len at done) in
    omega (arith, whole, e)

-- ---- which is the first
find_step : (p : ℕ → Bool) (x : ℕ) (xs : List ℕ) (b : Bool) → p x ≡ b → find p (x ∷ xs) ≡ (if b then Some x else find p xs)
find_step p x xs b e = ap (λ (c : Bool). if c then Some x else find p xs) e

pub sought_start : (p : ℕ → Bool) (first len : ℕ) → find p (rest_of first len 0) ≡ find p (range_with_len first len)
sought_start p first len = ap (find p) (rest_start first len)

pub sought_next : (p : ℕ → Bool) (first len at : ℕ) → at < len → p (first + at) ≡ false → find p (rest_of first len at) ≡ find p (range_with_len first len) → find p (rest_of first len (at + 1)) ≡ find p (range_with_len first len)
sought_next p first len at less fails before = sym (ap (find p) (rest_step first len at less) ∙ find_step p (first + at) (rest_of first len (at + 1)) false fails) ∙ before

pub sought_here : (p : ℕ → Bool) (first len at : ℕ) → at < len → p (first + at) ≡ true → find p (rest_of first len at) ≡ find p (range_with_len first len) → find p (range_with_len first len) ≡ Some (first + at)
sought_here p first len at less passes before = sym before ∙ ap (find p) (rest_step first len at less) ∙ find_step p (first + at) (rest_of first len (at + 1)) true passes

pub sought_end : (p : ℕ → Bool) (first len at : ℕ) → len ≤ at → find p (rest_of first len at) ≡ find p (range_with_len first len) → find p (range_with_len first len) ≡ None
sought_end p first len at done before = sym before ∙ ap (find p) (rest_end first len at done)

-- ---- tests that agree on a run
pub find_same : (p q : ℕ → Bool) (first len : ℕ) → ((at : ℕ) → at < len → p (first + at) ≡ q (first + at)) → find p (range_with_len first len) ≡ find q (range_with_len first len)
find_same p q first zero same = refl
find_same p q first (suc len) same =
    let here = same 0 (omega arith) in
    let n : first + 0 ≡ first = omega arith in
    let P : ℕ → Type 0 = λ k. p k ≡ q k in
    let rest = find_same p q (first + 1) len (λ at less.
    let e : first + suc at ≡ first + 1 + at = omega arith in
    subst P e (same (suc at) (omega (arith, less)))) in
    ap (λ (b : Bool). if b then Some first else find p (range_with_len (first + 1) len)) (subst P n here) ∙ ap (λ (o : Option ℕ). if q first then Some first else o) rest

pub filter_same : (p q : ℕ → Bool) (first len : ℕ) → ((at : ℕ) → at < len → p (first + at) ≡ q (first + at)) → filter p (range_with_len first len) ≡ filter q (range_with_len first len)
filter_same p q first zero same = refl
filter_same p q first (suc len) same =
    let here = same 0 (omega arith) in
    let n : first + 0 ≡ first = omega arith in
    let P : ℕ → Type 0 = λ k. p k ≡ q k in
    let rest = filter_same p q (first + 1) len (λ at less.
    let e : first + suc at ≡ first + 1 + at = omega arith in
    subst P e (same (suc at) (omega (arith, less)))) in
    ap (λ (b : Bool). if b then first ∷ filter p (range_with_len (first + 1) len) else filter p (range_with_len (first + 1) len)) (subst P n here) ∙ ap (λ (xs : List ℕ). if q first then first ∷ xs else xs) rest

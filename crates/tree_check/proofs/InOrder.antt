-- What is looked up by bisection in lists in order of number.
use Rattle.std.proofs.Common.{◌≡◌, ◌==◌, ℕ, zero, suc, Bool, true, false, cond, List, [], ◌∷◌, length, take, drop, filter, refl, sym, ap, subst, ◌∙◌, ltb, leb, ltb-false, ltb-true, leb-false, leb-true, eq-eqb, eqb-true, arith, zero-le, suc-le-suc}
use Rattle.std.specs.List.{AllWithin}
use Rattle.std.specs.List.Sorted.{IsPartitionPoint}

module _ {X : Type 0} (n : X → ℕ) (q : ℕ) where
  -- the test of a number
  abbrev is_number : X → Bool
  is_number x = n x == q

  other_low : (x : X) → ltb (n x) q ≡ true → (b : Bool) → is_number x ≡ b → b ≡ false
  other_low x h false e = refl
  other_low x h true e = let l = ltb-true (n x) q h in let s = eqb-true (n x) q e in absurd (omega (arith, l, s))

  other_high : (x : X) → leb (n x) q ≡ false → (b : Bool) → is_number x ≡ b → b ≡ false
  other_high x h false e = refl
  other_high x h true e = let l = leb-false (n x) q h in let s = eqb-true (n x) q e in absurd (omega (arith, l, s))

  here : (x : X) → ltb (n x) q ≡ false → leb (n x) q ≡ true → is_number x ≡ true
  here x h k = let l = ltb-false (n x) q h in let u = leb-true (n x) q k in eq-eqb (n x) q (omega (arith, l, u))

  -- ---- what stands below is left out
  rest_within : (P : X → Type 0) (x : X) (xs : List X) (low high : ℕ) → AllWithin P (x ∷ xs) (suc low) (suc high) → AllWithin P xs low high
  rest_within P x xs low high h = λ k d l u. h (suc k) d (suc-le-suc l) (suc-le-suc u)

  from_within : (P : X → Type 0) (x : X) (xs : List X) (high : ℕ) → AllWithin P (x ∷ xs) 0 (suc high) → AllWithin P xs 0 high
  from_within P x xs high h = λ k d l u. h (suc k) d zero-le (suc-le-suc u)

  pub dropped_within : (P : X → Type 0) (xs : List X) (i : ℕ) → AllWithin P xs i (length xs) → AllWithin P (drop i xs) 0 (length (drop i xs))
  dropped_within P xs zero h = h
  dropped_within P [] (suc i) h = λ k d l u. absurd (omega (arith, u))
  dropped_within P (x ∷ xs) (suc i) h = dropped_within P xs i (rest_within P x xs i (length xs) h)

  left_out : (xs : List X) (i : ℕ) → AllWithin (λ y. ltb (n y) q ≡ true) xs 0 i → filter is_number (drop i xs) ≡ filter is_number xs
  left_out xs zero h = refl
  left_out [] (suc i) h = refl
  left_out (x ∷ xs) (suc i) h =
      left_out xs i (from_within (λ y. ltb (n y) q ≡ true) x xs i h)
      ∙ ap (λ (b : Bool). cond b (x ∷ filter is_number xs) (filter is_number xs)) (sym (other_low x (h 0 x zero-le (suc-le-suc zero-le)) (is_number x) refl))

  -- ---- and what stands above
  none_above : (xs : List X) → AllWithin (λ y. leb (n y) q ≡ false) xs 0 (length xs) → [] ≡ filter is_number xs
  none_above [] h = refl
  none_above (x ∷ xs) h =
      none_above xs (from_within (λ y. leb (n y) q ≡ false) x xs (length xs) h)
      ∙ ap (λ (b : Bool). cond b (x ∷ filter is_number xs) (filter is_number xs)) (sym (other_high x (h 0 x zero-le (suc-le-suc zero-le)) (is_number x) refl))

  run : (xs : List X) (j : ℕ) → AllWithin (λ y. ltb (n y) q ≡ false) xs 0 (length xs) → AllWithin (λ y. leb (n y) q ≡ true) xs 0 j → AllWithin (λ y. leb (n y) q ≡ false) xs j (length xs)
      → take j xs ≡ filter is_number xs
  run xs zero f t h = none_above xs h
  run [] (suc j) f t h = refl
  run (x ∷ xs) (suc j) f t h =
      ap (λ (ys : List X). x ∷ ys)
      (run xs j (from_within (λ y. ltb (n y) q ≡ false) x xs (length xs) f) (from_within (λ y. leb (n y) q ≡ true) x xs j t) (rest_within (λ y. leb (n y) q ≡ false) x xs j (length xs) h))
      ∙ ap (λ (b : Bool). cond b (x ∷ filter is_number xs) (filter is_number xs)) (sym (here x (f 0 x zero-le (suc-le-suc zero-le)) (t 0 x zero-le (suc-le-suc zero-le))))

  -- two bisections find what has a number
  pub bisected : (xs ys : List X) (i j : ℕ) → ys ≡ drop i xs → IsPartitionPoint (λ y. ltb (n y) q ≡ true) (λ y. ltb (n y) q ≡ false) xs i → IsPartitionPoint (λ y. leb (n y) q ≡ true) (λ y. leb (n y) q ≡ false) ys j
      → take j ys ≡ filter (λ x. n x == q) xs
  bisected xs ys i j e low high =
      let P : List X → Type 0 = λ zs. AllWithin (λ y. ltb (n y) q ≡ false) zs 0 (length zs) in
      run ys j (subst P (sym e) (dropped_within (λ y. ltb (n y) q ≡ false) xs i low.1)) high.0 high.1 ∙ ap (filter is_number) e ∙ left_out xs i low.0

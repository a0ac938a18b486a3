-- Items of a list in fours, and places one behind another.
use Rattle.std.proofs.Common.{◌≡◌, ℕ, zero, suc, ◌+◌, ◌*◌, ◌<◌, ◌≤◌, List, [], ◌∷◌, ◌++◌, length, take, drop, get_or, ap, sym, ◌∙◌, arith, refl}
use Rattle.std.proofs.Math.Nat.{suc-mul, mul-le-mul_right}
use Rattle.std.proofs.Math.Seq.{drop-cons}
use Rattle.media_lpt.specs.declared.nnode.LptPlace.{LptPlace}
use Rattle.lpt_area.specs.Laid.{items_from, fours, places}

module _ {X : Type 0} (none : X) where
  pub items-append : (a b at : ℕ) (xs : List X) → items_from none (a + b) at xs ≡ items_from none a at xs ++ items_from none b (at + a) xs
  unfolding items_from
  items-append zero b at xs = let e : at + 0 ≡ at = omega arith in let f : 0 + b ≡ b = omega arith in ap (λ (n : ℕ). items_from none n at xs) f ∙ ap (λ (n : ℕ). items_from none b n xs) (sym e)
  items-append (suc a) b at xs =
      let e : suc a + b ≡ suc (a + b) = omega arith in
      let f : suc at + a ≡ at + suc a = omega arith in
      ap (λ (n : ℕ). items_from none n at xs) e ∙ ap (λ (r : List X). get_or xs at none ∷ r) (items-append a b (suc at) xs ∙ ap (λ (n : ℕ). items_from none a (suc at) xs ++ items_from none b n xs) f)

  pub fours-next : (i : ℕ) (xs : List X) → fours none (i + 1) xs ≡ fours none i xs ++ items_from none 4 (4 * i) xs
  fours-next i xs =
      let e : 4 * (i + 1) ≡ 4 * i + 4 = omega arith in
      let f : 0 + 4 * i ≡ 4 * i = omega arith in
      ap (λ (n : ℕ). items_from none n 0 xs) e ∙ items-append (4 * i) 4 0 xs ∙ ap (λ (n : ℕ). fours none i xs ++ items_from none 4 n xs) f

  pub fours-none : (xs : List X) → fours none 0 xs ≡ []
  unfolding items_from
  fours-none xs = refl

  pub take-items : (m n at : ℕ) (xs : List X) → m ≤ n → at + m ≤ length xs → take m (items_from none n at xs) ≡ take m (drop at xs)
  unfolding items_from
  take-items zero n at xs less room = refl
  take-items (suc m) zero at xs less room = absurd (omega (arith, less))
  take-items (suc m) (suc n) at xs less room =
      let first = drop-cons xs at none (omega (arith, room)) in
      ap (λ (r : List X). get_or xs at none ∷ r) (take-items m n (suc at) xs (omega (arith, less)) (omega (arith, room))) ∙ sym (ap (take (suc m)) first)

  pub take-fours : (m n : ℕ) (xs : List X) → m ≤ 4 * n → m ≤ length xs → take m (fours none n xs) ≡ take m xs
  take-fours m n xs less room = take-items m (4 * n) 0 xs less (omega (arith, room))

  pub four-items : (at : ℕ) (xs : List X) → items_from none 4 at xs ≡ get_or xs at none ∷ get_or xs (at + 1) none ∷ get_or xs (at + 2) none ∷ get_or xs (at + 3) none ∷ []
  unfolding items_from
  four-items at xs =
      let one : suc at ≡ at + 1 = omega arith in
      let two : suc (suc at) ≡ at + 2 = omega arith in
      let three : suc (suc (suc at)) ≡ at + 3 = omega arith in
      ap (λ (n : ℕ). get_or xs at none ∷ get_or xs n none ∷ get_or xs (suc (suc at)) none ∷ get_or xs (suc (suc (suc at))) none ∷ []) one
      ∙ ap (λ (n : ℕ). get_or xs at none ∷ get_or xs (at + 1) none ∷ get_or xs n none ∷ get_or xs (suc (suc (suc at))) none ∷ []) two
      ∙ ap (λ (n : ℕ). get_or xs at none ∷ get_or xs (at + 1) none ∷ get_or xs (at + 2) none ∷ get_or xs n none ∷ []) three

-- a place by its numbers
abbrev pub place_of : ℕ → ℕ → LptPlace
place_of lnum offs = record { lnum = lnum; offs = offs }

pub places-length : (lnum offs len n : ℕ) → length (places lnum offs len n) ≡ n
unfolding places
places-length lnum offs len zero = refl
places-length lnum offs len (suc n) = let rest = places-length lnum (offs + len) len n in omega (arith, rest)

pub places-none : (lnum offs len : ℕ) → places lnum offs len 0 ≡ []
unfolding places
places-none lnum offs len = refl

pub places-next : (lnum offs len n : ℕ) → places lnum offs len (n + 1) ≡ places lnum offs len n ++ place_of lnum (offs + n * len) ∷ []
unfolding places
places-next lnum offs len zero = let e : offs ≡ offs + 0 * len = omega arith in ap (λ (m : ℕ). place_of lnum m ∷ []) e
places-next lnum offs len (suc n) =
    let e : suc n + 1 ≡ suc (n + 1) = omega arith in
    let more = suc-mul n len in
    let f : offs + len + n * len ≡ offs + suc n * len = omega (arith, more) in
    ap (places lnum offs len) e ∙ ap (λ (r : List LptPlace). place_of lnum offs ∷ r) (places-next lnum (offs + len) len n ∙ ap (λ (m : ℕ). places lnum (offs + len) len n ++ place_of lnum m ∷ []) f)

pub places-at : (lnum offs len n k : ℕ) (d : LptPlace) → k < n → get_or (places lnum offs len n) k d ≡ place_of lnum (offs + k * len)
unfolding places
places-at lnum offs len zero k d h = absurd (omega (arith, h))
places-at lnum offs len (suc n) zero d h = let e : offs ≡ offs + 0 * len = omega arith in ap (place_of lnum) e
places-at lnum offs len (suc n) (suc k) d h =
    let more = suc-mul k len in
    let f : offs + len + k * len ≡ offs + suc k * len = omega (arith, more) in
    places-at lnum (offs + len) len n k d (omega (arith, h)) ∙ ap (place_of lnum) f

pub places-past : (lnum offs len n k : ℕ) (d : LptPlace) → n ≤ k → get_or (places lnum offs len n) k d ≡ d
unfolding places
places-past lnum offs len zero k d h = refl
places-past lnum offs len (suc n) zero d h = absurd (omega (arith, h))
places-past lnum offs len (suc n) (suc k) d h = places-past lnum (offs + len) len n k d (omega (arith, h))

-- one more fits among so many
pub one_more_fits : (k n len : ℕ) → k < n → k * len + len ≤ n * len
one_more_fits k n len h =
    let more = suc-mul k len in
    let all : suc k * len ≤ n * len = mul-le-mul_right len (omega (arith, h)) in
    omega (arith, more, all)

-- How nodes are packed.
use Rattle.std.proofs.Common.{◌≡◌, ℕ, suc, zero, ◌+◌, ◌-◌, ◌*◌, ◌/◌, ◌%◌, ◌<◌, ◌≤◌, false, List, [], ◌∷◌, ◌++◌, length, refl, ap, sym, ◌∙◌, subst, arith, append-nil, length-append, inl, inr}
use Rattle.std.specs.Prelude.{◌==◌, nat_le, replicate, min, if◌then◌else◌}
use Rattle.std.specs.Int.{div_ceil}
use Rattle.std.proofs.lemmas.Bool.{cases_Bool, cases_lt, leb-true, leb-false, le-leb, lt-leb, eqb-true, eqb-false, ne_eqb}
use Rattle.std.proofs.lemmas.List.{length-replicate}
use Rattle.std.proofs.lemmas.Grind.{div_ceil_times}
use Rattle.std.proofs.Math.Nat.{suc-mul, mul-le-mul_left}
use Rattle.std.proofs.lemmas.Nat.{div-add-mod', div-mul-add, mod-mul-add, mod_below}
use Rattle.index_media.specs.PlacedRow.{node_end}
use Rattle.laid_index.specs.Packing.{len_over, level_lens, lens_above, packed}

-- more nodes take no fewer LEBs
pub packed_grows : (size taken : ℕ) (xs ys : List ℕ) → length (packed size taken xs) ≤ length (packed size taken (xs ++ ys))
unfolding packed
packed_grows size taken [] [] = omega arith
packed_grows size taken [] (y ∷ ys) = elim (cases_Bool (nat_le (taken + y) size)) [
  | inl e ↦ rw e (packed_grows size (taken + node_end y) [] ys)
  | inr e ↦ rw e (omega arith)
]
packed_grows size taken (x ∷ xs) ys = elim (cases_Bool (nat_le (taken + x) size)) [
  | inl e ↦ rw e (packed_grows size (taken + node_end x) xs ys)
  | inr e ↦ rw e (let h = packed_grows size (node_end x) xs ys in omega (arith, h))
]

-- the open LEB is one of them
pub packed_some : (size taken : ℕ) (xs : List ℕ) → 1 ≤ length (packed size taken xs)
unfolding packed
packed_some size taken [] = omega arith
packed_some size taken (x ∷ xs) = elim (cases_Bool (nat_le (taken + x) size)) [
  | inl e ↦ rw e (packed_some size (taken + node_end x) xs)
  | inr e ↦ rw e (omega arith)
]

-- no more LEBs than nodes, beside the open one
pub packed_few : (size taken : ℕ) (xs : List ℕ) → length (packed size taken xs) ≤ 1 + length xs
unfolding packed
packed_few size taken [] = omega arith
packed_few size taken (x ∷ xs) = elim (cases_Bool (nat_le (taken + x) size)) [
  | inl e ↦ rw e (let h = packed_few size (taken + node_end x) xs in omega (arith, h))
  | inr e ↦ rw e (let h = packed_few size (node_end x) xs in omega (arith, h))
]

pub packed_nil : (size taken : ℕ) → packed size taken [] ≡ taken ∷ []
unfolding packed
packed_nil size taken = refl

-- a node that fits
pub packed_fits : (size taken len : ℕ) (lens : List ℕ) → taken + len ≤ size → packed size taken (len ∷ lens) ≡ packed size (taken + node_end len) lens
unfolding packed
packed_fits size taken len lens le = let e = le-leb (taken + len) size le in rw e refl

pub packed_over : (size taken len : ℕ) (lens : List ℕ) → size < taken + len → packed size taken (len ∷ lens) ≡ taken ∷ packed size (node_end len) lens
unfolding packed
packed_over size taken len lens lt = let e = lt-leb (taken + len) size lt in rw e refl

-- and one that goes into the next LEB
pub packed_next : (size taken len : ℕ) (lens : List ℕ) → size < taken + len → len ≤ size → packed size taken (len ∷ lens) ≡ taken ∷ packed size 0 (len ∷ lens)
packed_next size taken len lens lt le =
    let z : node_end len ≡ 0 + node_end len = omega arith in
    packed_over size taken len lens lt
    ∙ ap (λ (l : List ℕ). taken ∷ l) (ap (λ (n : ℕ). packed size n lens) z ∙ sym (packed_fits size 0 len lens (omega (arith, le))))

-- a first LEB takes the first node, so there are no more LEBs than nodes
pub packed_first : (size len : ℕ) (lens : List ℕ) → len ≤ size → length (packed size 0 (len ∷ lens)) ≤ 1 + length lens
packed_first size len lens le =
    let e = ap length (packed_fits size 0 len lens (omega (arith, le))) in
    let h = packed_few size (0 + node_end len) lens in
    omega (arith, e, h)

pub level_none : (f : ℕ) → level_lens f 0 ≡ []
level_none f = let q : 0 / f ≡ 0 = omega arith in let r : 0 % f ≡ 0 = omega arith in rw q (rw r refl)

-- the last node of a level
pub level_last : (f n : ℕ) → 0 < n → n ≤ f → level_lens f n ≡ len_over n ∷ []
level_last f n some le = elim (cases_lt n f) [
  | inl lt ↦
      let q : n / f ≡ 0 = let e : n ≡ 0 * f + n = omega arith in ap (λ (m : ℕ). m / f) e ∙ div-mul-add 0 f n lt in
      let r : n % f ≡ n = let e : n ≡ 0 * f + n = omega arith in ap (λ (m : ℕ). m % f) e ∙ mod-mul-add 0 f n lt in
      let z : (n == 0) ≡ false = ne_eqb n 0 (λ e. absurd (omega (arith, e, some))) in
      rw q (rw r (rw z refl))
  | inr ge ↦
      let e : f ≡ n = omega (arith, ge, le) in
      let P : ℕ → Type 0 = λ m. level_lens m n ≡ len_over n ∷ [] in
      let q : n / n ≡ 1 = let a : n ≡ 1 * n + 0 = omega arith in ap (λ (m : ℕ). m / n) a ∙ div-mul-add 1 n 0 some in
      let r : n % n ≡ 0 = let a : n ≡ 1 * n + 0 = omega arith in ap (λ (m : ℕ). m % n) a ∙ mod-mul-add 1 n 0 some in
      subst P (sym e) (rw q (rw r refl))
]

-- a full node in front of others
pub level_more : (f n : ℕ) → 0 < f → f ≤ n → level_lens f n ≡ len_over f ∷ level_lens f (n - f)
level_more f n some le =
    let d = div-add-mod' (n - f) f in
    let below = mod_below (n - f) f some in
    let q : n / f ≡ suc ((n - f) / f) =
    let e : n ≡ suc ((n - f) / f) * f + (n - f) % f = omega (arith, d, le) in
    ap (λ (m : ℕ). m / f) e ∙ div-mul-add (suc ((n - f) / f)) f ((n - f) % f) below in
    let r : n % f ≡ (n - f) % f =
    let e : n ≡ suc ((n - f) / f) * f + (n - f) % f = omega (arith, d, le) in
    ap (λ (m : ℕ). m % f) e ∙ mod-mul-add (suc ((n - f) / f)) f ((n - f) % f) below in
    rw q (rw r refl)

-- so the first node of a level has as many children as it can
pub level_step : (f n m : ℕ) → 0 < f → 0 < n → m ≡ min n f → level_lens f n ≡ len_over m ∷ level_lens f (n - m)
level_step f n m some one is = elim (cases_lt f n) [
  | inl lt ↦ let e : m ≡ f = is ∙ omega (arith, lt) in let P : ℕ → Type 0 = λ k. level_lens f n ≡ len_over k ∷ level_lens f (n - k) in subst P (sym e) (level_more f n some (omega (arith, lt)))
  | inr ge ↦
      let e : m ≡ n = is ∙ omega (arith, ge) in
      let P : ℕ → Type 0 = λ k. level_lens f n ≡ len_over k ∷ level_lens f (n - k) in
      let z : n - n ≡ 0 = omega arith in
      subst P (sym e) (level_last f n one ge ∙ ap (λ l. len_over n ∷ l) (sym (ap (level_lens f) z ∙ level_none f)))
]

pub level_count : (f n : ℕ) → length (level_lens f n) ≡ div_ceil n f
level_count f n = length-append (replicate (n / f) (len_over f)) (if n % f == 0 then [] else len_over (n % f) ∷ []) ∙ (let a = length-replicate (n / f) (len_over f) in elim (cases_Bool (n % f == 0)) [
  | inl e ↦ let z = eqb-true (n % f) 0 e in rw e (omega (arith, a, z))
  | inr e ↦ let z = eqb-false (n % f) 0 e in rw e (let p : 1 ≤ n % f = elim (cases_lt 0 (n % f)) [ inl h ↦ h | inr h ↦ absurd (z (omega (arith, h))) ] in omega (arith, a, p))
])

half : (q f n : ℕ) → q * f < n + f → 3 ≤ f → 4 ≤ n → 2 * q ≤ n
half zero f n t wide four = omega arith
half (suc r) f n t wide four =
    let s = suc-mul r f in
    let m : r * 3 ≤ r * f = mul-le-mul_left r wide in
    omega (arith, t, s, m, four)

-- a level above has at most half as many siblings, if they are more than a node has
pub ceil_half : (f n : ℕ) → 3 ≤ f → f < n → 2 * div_ceil n f ≤ n
ceil_half f n wide lt = half (div_ceil n f) f n (div_ceil_times n f (omega (arith, wide))).1 wide (omega (arith, wide, lt))

-- where there are siblings, a level has nodes
pub ceil_some : (f n : ℕ) → 0 < f → 0 < n → 0 < div_ceil n f
ceil_some f n some one = above (div_ceil n f) (div_ceil_times n f some).0
  where
    above : (q : ℕ) → n ≤ q * f → 0 < q
    above zero h = omega (arith, h, one)
    above (suc q) h = omega arith

-- an index has at most as many nodes as leaves
pub lens_count : (levels f n : ℕ) → 3 ≤ f → 0 < n → length (lens_above levels f n) ≤ n
unfolding lens_above
lens_count zero f n wide some = omega arith
lens_count (suc levels) f n wide some = elim (cases_Bool (nat_le n f)) [
  | inl e ↦ rw e (let le = leb-true n f e in let one = ap length (level_last f n some le) in let a = length-append (level_lens f n) [] in omega (arith, one, a, some))
  | inr e ↦ rw e (
      let lt = leb-false n f e in
      let c = level_count f n in
      let h = ceil_half f n wide lt in
      let more = lens_count levels f (div_ceil n f) wide (ceil_some f n (omega (arith, wide)) some) in
      let a = length-append (level_lens f n) (lens_above levels f (div_ceil n f)) in
      omega (arith, c, h, more, a))
]

-- the fuel doesn't matter, once it is enough
pub lens_enough : (a b f n : ℕ) → 3 ≤ f → 0 < n → n ≤ a → n ≤ b → lens_above a f n ≡ lens_above b f n
unfolding lens_above
lens_enough zero b f n wide some x y = absurd (omega (arith, x, some))
lens_enough (suc a) zero f n wide some x y = absurd (omega (arith, y, some))
lens_enough (suc a) (suc b) f n wide some x y = elim (cases_Bool (nat_le n f)) [
  | inl e ↦ rw e refl
  | inr e ↦ rw e (
      let lt = leb-false n f e in
      let h = ceil_half f n wide lt in
      let one = ceil_some f n (omega (arith, wide)) some in
      ap (λ l. level_lens f n ++ l) (lens_enough a b f (div_ceil n f) wide one (omega (arith, h, x, one)) (omega (arith, h, y, one))))
]

root_at : (levels f n : ℕ) → 0 < n → n ≤ f → lens_above (suc levels) f n ≡ len_over n ∷ []
unfolding lens_above
root_at levels f n some le = let e = le-leb n f le in rw e (append-nil (level_lens f n) ∙ level_last f n some le)

level_at : (levels f n : ℕ) → f < n → lens_above (suc levels) f n ≡ level_lens f n ++ lens_above levels f (div_ceil n f)
unfolding lens_above
level_at levels f n lt = let e = lt-leb n f lt in rw e refl

-- the root's level
pub lens_root : (f n : ℕ) → 0 < n → n ≤ f → lens_above n f n ≡ len_over n ∷ []
lens_root f zero some le = absurd (omega (arith, some))
lens_root f (suc m) some le = root_at m f (suc m) some le

-- a level, and those above it
pub lens_level : (f n : ℕ) → 3 ≤ f → f < n → lens_above n f n ≡ level_lens f n ++ lens_above (div_ceil n f) f (div_ceil n f)
lens_level f zero wide lt = absurd (omega (arith, lt))
lens_level f (suc m) wide lt =
    let h = ceil_half f (suc m) wide lt in
    let one = ceil_some f (suc m) (omega (arith, wide)) (omega arith) in
    level_at m f (suc m) lt ∙ ap (λ l. level_lens f (suc m) ++ l) (lens_enough m (div_ceil (suc m) f) f (div_ceil (suc m) f) wide one (omega (arith, h, one)) (omega arith))

-- What an index of full nodes weighs, level by level.
use Rattle.std.proofs.Common.{◌≡◌, ℕ, zero, suc, ◌+◌, ◌*◌, ◌/◌, ◌≤◌, ◌<◌, refl, sym, ap, ◌∙◌, arith, inl, inr}
use Rattle.std.specs.Int.{div_ceil}
use Rattle.std.proofs.lemmas.Bool.{cases_lt, le-leb, lt-leb}
use Rattle.std.proofs.lemmas.Grind.{div_ceil_times}
use Rattle.std.proofs.Math.Nat.{div-le_self, suc-mul, mul-le-mul_left}
use Rattle.plain_backing.specs.FullIndex.{weight_above, full_index_weight}

half : (q f n : ℕ) → q * f < n + f → 3 ≤ f → 4 ≤ n → 2 * q ≤ n
half zero f n t wide four = omega arith
half (suc r) f n t wide four =
    let s = suc-mul r f in
    let m : r * 3 ≤ r * f = mul-le-mul_left r wide in
    omega (arith, t, s, m, four)

-- a level has at most half as many nodes as siblings, if these are more than a node takes
ceil_half : (f n : ℕ) → 3 ≤ f → f < n → 2 * div_ceil n f ≤ n
ceil_half f n wide lt = half (div_ceil n f) f n (div_ceil_times n f (omega (arith, wide))).1 wide (omega (arith, wide, lt))

-- where there are siblings, a level has nodes
ceil_some : (f n : ℕ) → 0 < f → 1 ≤ n → 1 ≤ div_ceil n f
ceil_some f n some one = above (div_ceil n f) (div_ceil_times n f some).0
  where
    above : (q : ℕ) → n ≤ q * f → 1 ≤ q
    above zero h = omega (arith, h, one)
    above (suc q) h = omega arith

pub ceil_less : (f n : ℕ) → 3 ≤ f → f < n → div_ceil n f < n
ceil_less f n wide lt = let h = ceil_half f n wide lt in omega (arith, h, lt)

none_above : (f n : ℕ) → weight_above zero f n ≡ 1
unfolding weight_above
none_above f n = refl

root_at : (levels f n : ℕ) → n ≤ f → weight_above (suc levels) f n ≡ 1 + n / f
unfolding weight_above
root_at levels f n le = let e = le-leb n f le in rw e refl

level_at : (levels f n : ℕ) → f < n → weight_above (suc levels) f n ≡ div_ceil n f + n / f + weight_above levels f (div_ceil n f)
unfolding weight_above
level_at levels f n lt = let e = lt-leb n f lt in rw e refl

none_of_none : (f : ℕ) → 0 / f ≡ 0
none_of_none f = let le = div-le_self 0 f in omega (arith, le)

-- the root alone
pub weight_root : (f n : ℕ) → n ≤ f → full_index_weight f n ≡ 1 + n / f
weight_root f zero le = let z = none_of_none f in let e = none_above f 0 in omega (arith, z, e)
weight_root f (suc m) le = root_at m f (suc m) le

-- how many levels are allowed doesn't matter, once they are enough
enough : (a b f n : ℕ) → 3 ≤ f → 1 ≤ n → n ≤ a → n ≤ b → weight_above a f n ≡ weight_above b f n
enough zero b f n wide some x y = absurd (omega (arith, some, x))
enough (suc a) zero f n wide some x y = absurd (omega (arith, some, y))
enough (suc a) (suc b) f n wide some x y = elim (cases_lt f n) [
  | inl lt ↦
      let less = ceil_less f n wide lt in
      let one = ceil_some f n (omega (arith, wide)) some in
      level_at a f n lt
      ∙ ap (λ (k : ℕ). div_ceil n f + n / f + k) (enough a b f (div_ceil n f) wide one (omega (arith, less, x)) (omega (arith, less, y)))
      ∙ sym (level_at b f n lt)
  | inr ge ↦ root_at a f n (omega (arith, ge)) ∙ sym (root_at b f n (omega (arith, ge)))
]

-- a level, and those above it
pub weight_level : (f n : ℕ) → 3 ≤ f → f < n → full_index_weight f n ≡ div_ceil n f + n / f + full_index_weight f (div_ceil n f)
weight_level f zero wide lt = absurd (omega (arith, lt))
weight_level f (suc m) wide lt =
    let less = ceil_less f (suc m) wide lt in
    let one = ceil_some f (suc m) (omega (arith, wide)) (omega arith) in
    level_at m f (suc m) lt ∙ ap (λ (k : ℕ). div_ceil (suc m) f + suc m / f + k) (enough m (div_ceil (suc m) f) f (div_ceil (suc m) f) wide one (omega (arith, less)) (omega arith))

-- at most twice as much as leaves, but for the root
few_above : (levels f n : ℕ) → 3 ≤ f → weight_above levels f n ≤ 1 + 2 * n
few_above zero f n wide = let e = none_above f n in omega (arith, e)
few_above (suc levels) f n wide = elim (cases_lt f n) [
  | inl lt ↦
      let e = level_at levels f n lt in
      let more = few_above levels f (div_ceil n f) wide in
      let h = ceil_half f n wide lt in
      let full : n / f ≤ div_ceil n f = omega arith in
      omega (arith, e, more, h, full)
  | inr ge ↦
      let e = root_at levels f n (omega (arith, ge)) in
      let full = div-le_self n f in
      omega (arith, e, full)
]

pub weight_few : (f n : ℕ) → 3 ≤ f → full_index_weight f n ≤ 1 + 2 * n
weight_few f n wide = few_above n f n wide

-- the lowest level has a place for each leaf
pub weight_lowest : (f n weight : ℕ) → 3 ≤ f → weight ≡ full_index_weight f n → n ≤ f * weight
weight_lowest f n weight wide is = elim (cases_lt f n) [
  | inl lt ↦
      let e = weight_level f n wide lt in
      let all : div_ceil n f ≤ weight = omega (arith, e, is) in
      let times = (div_ceil_times n f (omega (arith, wide))).0 in
      let part = mul-le-mul_left f all in
      let swap : div_ceil n f * f ≡ f * div_ceil n f = omega arith in
      omega (arith, times, part, swap)
  | inr ge ↦
      let e = weight_root f n (omega (arith, ge)) in
      let one : 1 ≤ weight = omega (arith, e, is) in
      let part = mul-le-mul_left f one in
      omega (arith, part, ge)
]

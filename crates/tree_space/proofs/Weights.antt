-- What an index of full nodes weighs: no more than twice its leaves, but for the root, and a node for each of them on the lowest level.
use Rattle.std.proofs.Common.{◌≡◌, ℕ, zero, suc, ◌+◌, ◌*◌, ◌/◌, ◌≤◌, ◌<◌, refl, arith, inl, inr}
use Rattle.std.specs.Int.{div_ceil}
use Rattle.std.proofs.lemmas.Bool.{cases_lt, le-leb, lt-leb}
use Rattle.std.proofs.lemmas.Grind.{div_ceil_times}
use Rattle.std.proofs.Math.Nat.{div-le_self, suc-mul, mul-le-mul_left}
use Rattle.plain_backing.specs.FullIndex.{full_index_weight, weight_above}

half : (q f n : ℕ) → q * f < n + f → 3 ≤ f → 4 ≤ n → 2 * q ≤ n
half zero f n t wide four = omega arith
half (suc r) f n t wide four =
    let s = suc-mul r f in
    let m : r * 3 ≤ r * f = mul-le-mul_left r wide in
    omega (arith, t, s, m, four)

-- a level has at most half as many nodes as siblings, if these are more than a node takes
ceil_half : (f n : ℕ) → 3 ≤ f → f < n → 2 * div_ceil n f ≤ n
ceil_half f n wide lt = half (div_ceil n f) f n (div_ceil_times n f (omega (arith, wide))).1 wide (omega (arith, wide, lt))

-- where there are siblings, a level has nodes
ceil_some : (f n : ℕ) → 0 < f → 1 ≤ n → 1 ≤ div_ceil n f
ceil_some f n some one = above (div_ceil n f) (div_ceil_times n f some).0
  where
    above : (q : ℕ) → n ≤ q * f → 1 ≤ q
    above zero h = omega (arith, h, one)
    above (suc q) h = omega arith

none_above : (f n : ℕ) → weight_above zero f n ≡ 1
unfolding weight_above
none_above f n = refl

root_at : (levels f n : ℕ) → n ≤ f → weight_above (suc levels) f n ≡ 1 + n / f
unfolding weight_above
root_at levels f n le = let e = le-leb n f le in rw e refl

level_at : (levels f n : ℕ) → f < n → weight_above (suc levels) f n ≡ div_ceil n f + n / f + weight_above levels f (div_ceil n f)
unfolding weight_above
level_at levels f n lt = let e = lt-leb n f lt in rw e refl

-- at most twice as much as leaves, but for the root
few_above : (levels f n : ℕ) → 3 ≤ f → weight_above levels f n ≤ 1 + 2 * n
few_above zero f n wide = let e = none_above f n in omega (arith, e)
few_above (suc levels) f n wide = elim (cases_lt f n) [
  | inl lt ↦
      let e = level_at levels f n lt in
      let more = few_above levels f (div_ceil n f) wide in
      let h = ceil_half f n wide lt in
      let full : n / f ≤ div_ceil n f = omega arith in
      omega (arith, e, more, h, full)
  | inr ge ↦
      let e = root_at levels f n (omega (arith, ge)) in
      let full = div-le_self n f in
      omega (arith, e, full)
]

pub weight_few : (f n : ℕ) → 3 ≤ f → full_index_weight f n ≤ 1 + 2 * n
weight_few f n wide = few_above n f n wide

-- the lowest level has a place for each leaf
times_le : (f n q weight : ℕ) → n ≤ q * f → q ≤ weight → n ≤ f * weight
times_le f n q weight fits le =
    let part = mul-le-mul_left f le in
    let swap : q * f ≡ f * q = omega arith in
    omega (arith, fits, part, swap)

lowest_above : (levels f n : ℕ) → 3 ≤ f → n ≤ f * weight_above (suc levels) f n
lowest_above levels f n wide = elim (cases_lt f n) [
  | inl lt ↦
      let e = level_at levels f n lt in
      times_le f n (div_ceil n f) (weight_above (suc levels) f n) (div_ceil_times n f (omega (arith, wide))).0 (omega (arith, e))
  | inr ge ↦
      let e = root_at levels f n (omega (arith, ge)) in
      times_le f n 1 (weight_above (suc levels) f n) (omega (arith, ge)) (omega (arith, e))
]

pub weight_lowest : (f n : ℕ) → 3 ≤ f → n ≤ f * full_index_weight f n
weight_lowest f zero wide = omega arith
weight_lowest f (suc m) wide = lowest_above m f (suc m) wide

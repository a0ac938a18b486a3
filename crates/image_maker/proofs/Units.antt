-- Whole units.
use Rattle.std.proofs.Common.{◌≡◌, ℕ, ◌+◌, ◌*◌, ◌/◌, ◌%◌, ◌<◌, ◌≤◌, suc, arith}
use Rattle.std.proofs.Math.Nat.{mul-mod_left, suc-mul, mul-le-mul_right, lt_of_mul-lt-mul_right}
use Rattle.std.proofs.lemmas.Nat.{div-add-mod'}
use Rattle.std.proofs.lemmas.Grind.{div_ceil_times}
use Rattle.std.specs.Int.{div_ceil}
use Rattle.ubi_volume.specs.Volume.{AreUnits}
use Rattle.image_maker.specs.Image.{round_up}

-- what fits a LEB of whole units still fits it rounded up
pub round_up-le : (unit n size : ℕ) → 0 < unit → size % unit ≡ 0 → n ≤ size → round_up unit n ≤ size
round_up-le unit n size some whole fits =
    let q = div_ceil n unit in
    let m = size / unit in
    let times = div_ceil_times n unit some in
    let near : q * unit < n + unit = times.1 in
    let all : m * unit ≡ size = omega (arith, div-add-mod' size unit, whole) in
    let next : suc m * unit ≡ m * unit + unit = suc-mul m unit in
    let below : q < suc m = lt_of_mul-lt-mul_right unit (omega (arith, near, all, next, fits)) in
    let le : q ≤ m = omega (arith, below) in
    let most : q * unit ≤ m * unit = mul-le-mul_right unit le in
    omega (arith, most, all)

pub round_up-ge : (unit n : ℕ) → 0 < unit → n ≤ round_up unit n
round_up-ge unit n some = (div_ceil_times n unit some).0

-- a positive number of bytes, rounded up, is whole units
pub round_up-units : (unit n : ℕ) → 0 < unit → 0 < n → AreUnits unit 0 (round_up unit n)
round_up-units unit n some one =
    let wide : n ≤ round_up unit n = round_up-ge unit n some in
    record { some = omega (arith, one, wide); whole = mul-mod_left (div_ceil n unit) unit; starts = zero_mod unit }
  where
    zero_mod : (m : ℕ) → 0 % m ≡ 0
    zero_mod m = omega arith

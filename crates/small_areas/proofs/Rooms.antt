-- The room for a copy.
use Rattle.std.proofs.Common.{◌≡◌, ℕ, ◌+◌, ◌/◌, ◌%◌, ◌<◌, ◌≤◌, List, Option, Some, None, IfSome, arith}
use Rattle.std.proofs.Math.Nat.{mul-mod_left}
use Rattle.std.proofs.lemmas.Nat.{div-add-mod', mod_below}
use Rattle.std.proofs.lemmas.Nat.Gcd.{dvd_of_mod-eq-zero, mod-eq-zero_of_dvd, dvd_trans}
use Rattle.small_areas.specs.Copies.{room_of, IsPlace}

pub room_low : (unit : ℕ) → 0 < unit → 512 ≤ room_of unit
room_low unit some =
    let whole = div-add-mod' (511 + unit) unit in
    let rest = mod_below (511 + unit) unit some in
    omega (arith, whole, rest)

pub room_high : (unit : ℕ) → room_of unit ≤ 511 + unit
room_high unit = let whole = div-add-mod' (511 + unit) unit in omega (arith, whole)

pub room_whole : (unit : ℕ) → room_of unit % unit ≡ 0
room_whole unit = mul-mod_left ((511 + unit) / unit) unit

-- multiples of a multiple
pub mod_through : (place room unit : ℕ) → place % room ≡ 0 → room % unit ≡ 0 → place % unit ≡ 0
mod_through place room unit h k = mod-eq-zero_of_dvd unit (dvd_trans unit (dvd_of_mod-eq-zero unit k) (dvd_of_mod-eq-zero room h))

-- a place begins at a unit
pub place_starts : (leb : List ℕ) (room unit : ℕ) (o : Option ℕ) → room % unit ≡ 0 → IfSome o (IsPlace leb room) → IfSome o (λ (offs : ℕ). offs % unit ≡ 0)
place_starts leb room unit None whole h = tt
place_starts leb room unit (Some offs) whole h = mod_through offs room unit h.multiple whole

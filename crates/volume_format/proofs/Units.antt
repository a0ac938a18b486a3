-- Whole units, and whole words.
use Rattle.std.proofs.Common.{◌≡◌, ◌-◌, ◌*◌, ◌%◌, ℕ}
use Rattle.std.proofs.Math.Nat.{dvd-sub, mul-mod_left}
use Rattle.std.proofs.lemmas.Nat.Gcd.{dvd_of_mod-eq-zero, dvd_trans, mod-eq-zero_of_dvd}

pub whole_units : (q u : ℕ) → q * u % u ≡ 0
whole_units q u = mul-mod_left q u

-- a multiple of units is one of words, if a unit is
pub mod_through : (n unit word : ℕ) → n % unit ≡ 0 → unit % word ≡ 0 → n % word ≡ 0
mod_through n unit word h k = mod-eq-zero_of_dvd word (dvd_trans word (dvd_of_mod-eq-zero word k) (dvd_of_mod-eq-zero unit h))

-- what whole words leave of whole words is whole words
pub mod_left : (n k word : ℕ) → n % word ≡ 0 → k % word ≡ 0 → (n - k) % word ≡ 0
mod_left n k word h i = mod-eq-zero_of_dvd word (dvd-sub word (dvd_of_mod-eq-zero word h) (dvd_of_mod-eq-zero word i))

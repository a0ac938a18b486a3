-- Whole units, and whole words.
use Rattle.std.proofs.Common.{◌≡◌, ℕ, ◌+◌, ◌-◌, ◌/◌, ◌%◌, ◌<◌, ◌≤◌, arith}
use Rattle.std.proofs.Math.Nat.{dvd-sub, mul-mod_left}
use Rattle.std.proofs.lemmas.Nat.Gcd.{dvd_of_mod-eq-zero, dvd_trans, mod-eq-zero_of_dvd}
use Rattle.lpt_area.specs.Written.{in_units}

pub units_more : (unit len : ℕ) → 0 < unit → len ≤ in_units unit len
units_more unit len some = grind arith

pub units_fit : (unit size len : ℕ) → 0 < unit → size % unit ≡ 0 → len ≤ size → in_units unit len ≤ size
units_fit unit size len some whole fits = grind arith

-- units are whole words, if a unit is
pub units_words : (unit len : ℕ) → unit % 8 ≡ 0 → in_units unit len % 8 ≡ 0
units_words unit len h = mod-eq-zero_of_dvd 8 (dvd_trans 8 (dvd_of_mod-eq-zero 8 h) (dvd_of_mod-eq-zero unit (mul-mod_left ((len + (unit - 1)) / unit) unit)))

-- what whole words leave of whole words is whole words
pub words_left : (n k : ℕ) → n % 8 ≡ 0 → k % 8 ≡ 0 → (n - k) % 8 ≡ 0
words_left n k h i = mod-eq-zero_of_dvd 8 (dvd-sub 8 (dvd_of_mod-eq-zero 8 h) (dvd_of_mod-eq-zero 8 i))

-- How the head of a node is written and tested.
use Rattle.std.proofs.Common.{◌≡◌, ℕ, ◌+◌, ◌*◌, ◌/◌, ◌%◌, ◌^◌, ◌<◌, ◌≤◌, ◌==◌, IsTrue, List, [], ◌∷◌, ◌++◌, length, drop, replicate, ap, sym, ◌∙◌, arith, subst}
use Rattle.std.proofs.Math.Nat.{mod-eq_of_lt}
use Rattle.std.proofs.Math.Seq.{drop-append_seam}
use Rattle.std.proofs.lemmas.Bool.{eqb-true, eq-eqb}
use Rattle.std.proofs.lemmas.Nat.{shr_below, shr_split, mod_below, pow_pos}
use Rattle.byteorder.specs.Endian.{little_number, little_bytes}
use Rattle.byteorder.specs.Numbers.{little_from-lt}
use Rattle.ubifs_base.specs.Crc.{crc16_of}
use Rattle.ubifs_base.specs.NodeLaws.{IsBytes}
use Rattle.ubifs_base.specs.Properties.{bytes_for, node_head_bits}
use Rattle.media_lpt.specs.Packed.{Field, field, bits_len, packed_number, bytes_number, IsPacked, IsPut, IsFramed}
use Rattle.media_lpt.specs.PackedLaws.{bytes_number-split, bytes_number-lt, bytes_number-zeros, IsPut-cons, put-packed}
use Rattle.media_lpt.proofs.PackingLemmas.{word-put}

-- the last test, the others having passed
pub framed_by : (bytes : List ℕ) (kind bits rest x : ℕ) → IsBytes bytes → length bytes ≡ bytes_for (node_head_bits + bits) → bytes_number bytes / 2 ^ 0 % 2 ^ 16 ≡ crc16_of (drop 2 bytes)
    → bytes_number bytes / 2 ^ 16 % 2 ^ 4 ≡ kind → rest + (20 + bits) ≡ 8 * length bytes → x ≡ bytes_number bytes / 2 ^ (20 + bits) % 2 ^ rest
    → (IsTrue (x == 0) → IsFramed bytes kind bits) × (IsFramed bytes kind bits → IsTrue (x == 0))
framed_by bytes kind bits rest x fits long crc type e is =
    let n = bytes_number bytes in
    let P : ℕ → Type 0 = λ k. n < 2 ^ k in
    let high : n / 2 ^ (20 + bits) < 2 ^ rest = shr_below n rest (20 + bits) (subst P (sym e) (bytes_number-lt bytes fits)) in
    let all : x ≡ n / 2 ^ (20 + bits) = is ∙ mod-eq_of_lt high in
    let split = shr_split n (20 + bits) in
    let low = mod_below n (2 ^ (20 + bits)) (pow_pos (20 + bits)) in (
      λ h.
          let none : n / 2 ^ (20 + bits) ≡ 0 = sym all ∙ eqb-true x 0 h in
          let gone : n / 2 ^ (20 + bits) * 2 ^ (20 + bits) ≡ 0 = ap (λ y. y * 2 ^ (20 + bits)) none ∙ omega arith in
          record { long = long; checksum = omega (arith, crc); kind = type; filled = omega (arith, split, gone, low) },
      λ h.
          let small : n / 2 ^ (20 + bits) < 2 ^ 0 = shr_below n 0 (20 + bits) (let f = h.filled in let Q : ℕ → Type 0 = λ k. n < 2 ^ k in let z : 20 + bits ≡ 0 + (20 + bits) = omega arith in subst Q z f) in
          eq-eqb x 0 (omega (arith, all, small)),
    )

-- zeros, and then the type
pub started : (zeros out : List ℕ) (n kind : ℕ) → zeros ≡ replicate n 0 → IsPut zeros 16 (field 4 kind ∷ []) out → bytes_number out ≡ 2 ^ 16 * kind
unfolding packed_number
started zeros out n kind e put = let z : bytes_number zeros ≡ 0 = ap bytes_number e ∙ bytes_number-zeros n in let s = put.sum in omega (arith, z, s)

pub none_free : (zeros : List ℕ) (n bit : ℕ) → zeros ≡ replicate n 0 → bytes_number zeros < 2 ^ bit
none_free zeros n bit e = let z : bytes_number zeros ≡ 0 = ap bytes_number e ∙ bytes_number-zeros n in let p = pow_pos bit in omega (arith, z, p)

-- the checksum's bits are 0 as long as it isn't written
pub still_open : (start body : List ℕ) (kind : ℕ) (fields : List Field) → bytes_number start ≡ 2 ^ 16 * kind → IsPut start 20 fields body → bytes_number body % 2 ^ 16 ≡ 0
still_open start body kind fields s put = let b = put.sum in omega (arith, s, b)

-- the first two bytes are the lowest bits
pub first_two : (bytes : List ℕ) → 2 ≤ length bytes → IsBytes bytes → little_number 2 bytes ≡ bytes_number bytes % 2 ^ 16
first_two bytes long fits =
    let split = bytes_number-split 2 bytes long in
    let low : little_number 2 bytes < 256 ^ 2 = little_from-lt 0 2 bytes fits in
    omega (arith, split, low)

-- the checksum in the first two bytes, which were 0
pub sealed : (old new : List ℕ) (crc : ℕ) → 2 ≤ length old → little_number 2 old ≡ bytes_number old % 2 ^ 16 → bytes_number old % 2 ^ 16 ≡ 0 → crc < 2 ^ 16 → crc ≡ crc16_of (drop 2 old)
    → new ≡ little_bytes 2 crc ++ drop 2 old → bytes_number new ≡ bytes_number old + crc16_of (drop 2 new)
sealed old new crc long low zero small is e =
    let none : little_number 2 old ≡ 0 = low ∙ zero in
    let same : crc ≡ little_number 2 old + crc * 2 ^ 0 = omega (arith, none) in
    let fit : little_number 2 old + crc * 2 ^ 0 < 256 ^ 2 = omega (arith, none, small) in
    let put : bytes_number new ≡ bytes_number old + 2 ^ 0 * crc = word-put old new 0 crc 2 long fit (e ∙ ap (λ x. little_bytes 2 x ++ drop 2 old) same) in
    let rest : drop 2 new ≡ drop 2 old = ap (drop 2) e ∙ drop-append_seam (little_bytes 2 crc) (drop 2 old) in
    let c : crc16_of (drop 2 new) ≡ crc = ap crc16_of rest ∙ sym is in
    omega (arith, put, c)

-- a node with a number: started, its number put, the rest put, and sealed
pub encoded : (start mid body last : List ℕ) (kind width num : ℕ) (rest : List Field) → bytes_number start ≡ 2 ^ 16 * kind → IsPut start 20 (field width num ∷ []) mid → IsPut mid (20 + width) rest body
    → bytes_number last ≡ bytes_number body + crc16_of (drop 2 last) → length last ≡ bytes_for (node_head_bits + (width + bits_len rest)) → IsPacked last kind (field width num ∷ rest)
unfolding bits_len
encoded start mid body last kind width num rest s number put crc long = put-packed start body last kind (field width num ∷ rest) s (IsPut-cons start mid body 20 width num rest number put) crc long

-- A checksum fits its width.
use Rattle.std.specs.Prelude.{ℕ, zero, suc, ◌/◌, ◌%◌, ◌^◌, ◌<◌, ◌≤◌, ◌==◌, bit_xor, List, [], ◌∷◌, get_or}
use Rattle.std.proofs.Common.{inl, inr, arith}
use Rattle.std.specs.Int.Bits.{xor_lt}
use Rattle.std.proofs.lemmas.Bool.{cases_Bool}
use Rattle.std.proofs.lemmas.Nat.{pow_pos}
use Rattle.ubifs_base.specs.Crc.{feedback, crc_bit, crc_bits, crc_byte, crc_from, crc32_of, crc16_of}

feedback-lt : (w f b : ℕ) → f < 2 ^ w → feedback f b < 2 ^ w
feedback-lt w f b h = elim (cases_Bool (b == 1)) [ inl e ↦ rw e h | inr e ↦ rw e (pow_pos w) ]

crc_bit-lt : (w f c : ℕ) → f < 2 ^ w → c < 2 ^ w → crc_bit f c < 2 ^ w
crc_bit-lt w f c g h = xor_lt w (c / 2) (feedback f (c % 2)) (omega arith) (feedback-lt w f (c % 2) g)

pub crc_bits-lt : (w f n c : ℕ) → f < 2 ^ w → c < 2 ^ w → crc_bits f n c < 2 ^ w
unfolding crc_bits
crc_bits-lt w f zero c g h = h
crc_bits-lt w f (suc n) c g h = crc_bits-lt w f n (crc_bit f c) g (crc_bit-lt w f c g h)

pub crc_from-lt : (w f : ℕ) (bs : List ℕ) (c : ℕ) → 256 ≤ 2 ^ w → f < 2 ^ w → ((i : ℕ) → get_or bs i 0 < 256) → c < 2 ^ w → crc_from f c bs < 2 ^ w
crc_from-lt w f [] c wide g fits h = h
crc_from-lt w f (b ∷ bs) c wide g fits h =
    let byte : b < 256 = fits 0 in
    let small : b < 2 ^ w = omega arith in
    crc_from-lt w f bs (crc_byte f c b) wide g (λ i. fits (suc i)) (crc_bits-lt w f 8 (bit_xor c b) g (xor_lt w c b h small))

pub crc32_of-lt : (bs : List ℕ) → ((i : ℕ) → get_or bs i 0 < 256) → crc32_of bs < 2 ^ 32
unfolding crc32_of
crc32_of-lt bs fits = crc_from-lt 32 0xEDB88320 bs 0xFFFFFFFF (omega arith) (omega arith) fits (omega arith)

pub crc16_of-lt : (bs : List ℕ) → ((i : ℕ) → get_or bs i 0 < 256) → crc16_of bs < 2 ^ 16
unfolding crc16_of
crc16_of-lt bs fits = crc_from-lt 16 0xA001 bs 0xFFFF (omega arith) (omega arith) fits (omega arith)

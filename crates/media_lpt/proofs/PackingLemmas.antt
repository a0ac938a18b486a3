-- The words that are read and written hold the bits that are asked for.
use Rattle.std.proofs.Common.{◌≡◌, ℕ, zero, suc, ◌+◌, ◌*◌, ◌-◌, ◌/◌, ◌%◌, ◌^◌, ◌<◌, ◌≤◌, List, [], ◌∷◌, ◌++◌, length, take, drop, refl, ap, sym, ◌∙◌, arith, subst, length-take, take-append-drop, get_or, length-append}
use Rattle.std.proofs.Math.Nat.{mul_assoc, mul_comm, mul-add, pow-suc, mul-add-mod_self_right, pow-le-pow_right}
use Rattle.std.proofs.Math.Seq.{drop-append_seam}
use Rattle.std.proofs.lemmas.Nat.{pow-add, shr-shr, shl-shr, shr_below, shr_high, field_of, one_shl, shl_whole, mul-add-lt}
use Rattle.byteorder.specs.Endian.{little_number, little_bytes}
use Rattle.byteorder.specs.Numbers.{little_number-reads_back, length-bytes_low_first}
use Rattle.ubifs_base.specs.NodeLaws.{IsBytes}
use Rattle.media_lpt.specs.Packed.{field, bits_len, packed_number, AllFit, bytes_number, IsPut, IsFree}
use Rattle.media_lpt.specs.PackedLaws.{bytes_number-append, bytes_number-split, bytes_number-lt, IsFree-put}

pub pow256 : (n : ℕ) → 256 ^ n ≡ 2 ^ (8 * n)
pow256 zero = refl
pow256 (suc n) =
    let ih = pow256 n in
    let p : 2 ^ (8 * suc n) ≡ 2 ^ (8 * n) * 256 = (let e : 8 * suc n ≡ 8 * n + 8 = omega arith in rw e (pow-add 2 (8 * n) 8)) in
    pow-suc 256 n ∙ ap (λ x. x * 256) ih ∙ sym p

-- what stands above the bits doesn't matter
above_bits : (word above bit width all : ℕ) → bit + width ≤ all → (word + 2 ^ all * above) / 2 ^ bit % 2 ^ width ≡ word / 2 ^ bit % 2 ^ width
above_bits word above bit width all h =
    let more = all - (width + bit) in
    let p : 2 ^ all ≡ 2 ^ (width + bit) * 2 ^ more = (let e : all ≡ width + bit + more = omega arith in ap (λ x. 2 ^ x) e ∙ pow-add 2 (width + bit) more) in
    let q : word + 2 ^ all * above ≡ 2 ^ more * above * 2 ^ (width + bit) + word =
    ap (λ x. word + x * above) p ∙ ap (λ x. word + x) (mul_assoc (2 ^ (width + bit)) (2 ^ more) above ∙ mul_comm (2 ^ (width + bit)) (2 ^ more * above)) ∙ omega arith in
    sym (field_of (word + 2 ^ all * above) width bit)
    ∙ ap (λ x. x / 2 ^ bit) (ap (λ x. x % 2 ^ (width + bit)) q ∙ mul-add-mod_self_right (2 ^ more * above) (2 ^ (width + bit)) word)
    ∙ field_of word width bit

-- the bits of a word are those of all bytes
pub word_bits : (bytes : List ℕ) (bit width count : ℕ) → count ≤ length bytes → bit + width ≤ 8 * count → width ≤ 32
    → little_number count bytes / 2 ^ bit % (1 * 2 ^ width % 2 ^ 64) ≡ bytes_number bytes / 2 ^ bit % 2 ^ width
word_bits bytes bit width count room fit small =
    ap (λ x. little_number count bytes / 2 ^ bit % x) (one_shl width 64 (omega arith))
    ∙ sym (above_bits (little_number count bytes) (bytes_number (drop count bytes)) bit width (8 * count) fit)
    ∙ ap (λ x. x / 2 ^ bit % 2 ^ width) (sym (bytes_number-split count bytes room))

-- the first of them are bytes
taken : (n : ℕ) (bytes : List ℕ) → IsBytes bytes → (i : ℕ) → get_or (take n bytes) i 0 < 256
taken zero bytes fits zero = omega arith
taken zero bytes fits (suc i) = omega arith
taken (suc n) [] fits zero = omega arith
taken (suc n) [] fits (suc i) = omega arith
taken (suc n) (x ∷ bytes) fits zero = fits 0
taken (suc n) (x ∷ bytes) fits (suc i) = taken n bytes (λ k. fits (suc k)) i

-- the bytes from a place on, as a number
pub bytes_number-drop : (n : ℕ) (bytes : List ℕ) → n ≤ length bytes → IsBytes bytes → bytes_number bytes / 2 ^ (8 * n) ≡ bytes_number (drop n bytes)
bytes_number-drop n bytes h fits =
    let front = take n bytes in
    let long : length front ≡ n = rw length-take (omega arith) in
    let e : bytes_number bytes ≡ bytes_number front + 2 ^ (8 * n) * bytes_number (drop n bytes) =
    ap bytes_number (sym (take-append-drop n bytes)) ∙ bytes_number-append front (drop n bytes) ∙ ap (λ x. bytes_number front + 2 ^ (8 * x) * bytes_number (drop n bytes)) long in
    let low : bytes_number front < 2 ^ (8 * n) = (let P : ℕ → Type 0 = λ x. bytes_number front < 2 ^ (8 * x) in subst P long (bytes_number-lt front (taken n bytes fits))) in
    ap (λ x. x / 2 ^ (8 * n)) (e ∙ ap (λ x. bytes_number front + x) (mul_comm (2 ^ (8 * n)) (bytes_number (drop n bytes))) ∙ omega arith) ∙ shr_high (bytes_number (drop n bytes)) (8 * n) (bytes_number front) low

-- a place in bits is one in bytes and one in a byte
pub bits_at : (bytes : List ℕ) (bit width : ℕ) → bit / 8 ≤ length bytes → IsBytes bytes → bytes_number (drop (bit / 8) bytes) / 2 ^ (bit % 8) % 2 ^ width ≡ bytes_number bytes / 2 ^ bit % 2 ^ width
bits_at bytes bit width h fits =
    let place : 8 * (bit / 8) + bit % 8 ≡ bit = omega arith in
    ap (λ x. x % 2 ^ width) (ap (λ x. x / 2 ^ (bit % 8)) (sym (bytes_number-drop (bit / 8) bytes h fits)) ∙ shr-shr (bytes_number bytes) (8 * (bit / 8)) (bit % 8) ∙ ap (λ x. bytes_number bytes / 2 ^ x) place)

-- nothing stands in the word from the bit on
pub word-lt : (bytes : List ℕ) (bit count : ℕ) → count ≤ length bytes → bytes_number bytes < 2 ^ bit → little_number count bytes < 2 ^ bit
word-lt bytes bit count room free = omega (arith, bytes_number-split count bytes room)

-- the value, put above the bits
pub shifted : (value bit width : ℕ) → bit < 8 → width ≤ 32 → value < 2 ^ width → value * 2 ^ bit % 2 ^ 64 ≡ value * 2 ^ bit
shifted value bit width low small fits = shl_whole value width bit 64 fits (omega arith)

pub sum-lt : (word value bit width all : ℕ) → word < 2 ^ bit → value < 2 ^ width → bit + width ≤ all → word + value * 2 ^ bit < 2 ^ all
sum-lt word value bit width all hw hv h =
    let a : value * 2 ^ bit + word < 2 ^ bit * 2 ^ width = mul-add-lt value (2 ^ bit) word (2 ^ width) hv hw in
    let p : 2 ^ (bit + width) ≡ 2 ^ bit * 2 ^ width = pow-add 2 bit width in
    let most : 2 ^ (bit + width) ≤ 2 ^ all = pow-le-pow_right {n = 2} (omega arith) {i = bit + width} {j = all} h in
    omega (arith, a, p, most)

-- the word is written back
pub word-put : (bytes new : List ℕ) (bit value count : ℕ) → count ≤ length bytes → little_number count bytes + value * 2 ^ bit < 256 ^ count
    → new ≡ little_bytes count (little_number count bytes + value * 2 ^ bit) ++ drop count bytes → bytes_number new ≡ bytes_number bytes + 2 ^ bit * value
word-put bytes new bit value count room fits e =
    let word = little_number count bytes + value * 2 ^ bit in
    let front = little_bytes count word in
    let long : length front ≡ count = length-bytes_low_first 0 count word in
    let read : little_number count (front ++ drop count bytes) ≡ word = little_number-reads_back count word (drop count bytes) fits in
    let rest : drop count (front ++ drop count bytes) ≡ drop count bytes = ap (λ n. drop n (front ++ drop count bytes)) (sym long) ∙ drop-append_seam front (drop count bytes) in
    let fit : count ≤ length (front ++ drop count bytes) = rw length-append (omega (arith, long)) in
    let s = bytes_number-split count (front ++ drop count bytes) fit in
    let o = bytes_number-split count bytes room in
    let t : 2 ^ bit * value ≡ value * 2 ^ bit = mul_comm (2 ^ bit) value in
    rw (e, s, read, rest) (omega (arith, o, t))

-- no bits say nothing
pub put_none : (bytes : List ℕ) (bit width value : ℕ) → width ≡ 0 → value < 2 ^ width → IsPut bytes bit (field width value ∷ []) bytes
unfolding packed_number
put_none bytes bit width value none fits =
    let P : ℕ → Type 0 = λ w. value < 2 ^ w in
    let h : value < 2 ^ 0 = subst P none fits in
    let z : value ≡ 0 = omega (arith, h) in
    record { same_len = refl; sum = rw (z, none) (omega arith) }

-- nothing stands in the rest from the bit on
pub rest_free : (bytes front rest : List ℕ) (bit : ℕ) → bytes ≡ front ++ rest → length front ≡ bit / 8 → IsFree bytes bit → bytes_number rest < 2 ^ (bit % 8)
rest_free bytes front rest bit e long free =
    let n = 8 * (bit / 8) in
    let place : bit ≡ bit % 8 + n = omega arith in
    let all : bytes_number bytes ≡ bytes_number front + 2 ^ n * bytes_number rest = ap bytes_number e ∙ bytes_number-append front rest ∙ ap (λ x. bytes_number front + 2 ^ (8 * x) * bytes_number rest) long in
    let t : 2 ^ n * bytes_number rest ≡ bytes_number rest * 2 ^ n = mul_comm (2 ^ n) (bytes_number rest) in
    let q : 2 ^ bit ≡ 2 ^ (bit % 8 + n) = ap (λ x. 2 ^ x) place in
    let h : bytes_number bytes < 2 ^ bit = free.below in
    let low : bytes_number rest * 2 ^ n < 2 ^ (bit % 8 + n) = omega (arith, all, t, h, q) in
    let P : ℕ → Type 0 = λ x. x < 2 ^ (bit % 8) in
    subst P (shl-shr (bytes_number rest) n) (shr_below (bytes_number rest * 2 ^ n) (bit % 8) n low)

-- what is put into the rest is put into all
pub put_rest : (bytes front rest new : List ℕ) (bit width value : ℕ) → bytes ≡ front ++ rest → length front ≡ bit / 8 → length new ≡ length rest
    → bytes_number new ≡ bytes_number rest + 2 ^ (bit % 8) * value → IsPut bytes bit (field width value ∷ []) (front ++ new)
unfolding packed_number
put_rest bytes front rest new bit width value e long same h =
    let place : bit ≡ 8 * (bit / 8) + bit % 8 = omega arith in
    let p : 2 ^ bit ≡ 2 ^ (8 * (bit / 8)) * 2 ^ (bit % 8) = ap (λ x. 2 ^ x) place ∙ pow-add 2 (8 * (bit / 8)) (bit % 8) in
    let all = bytes_number-append front rest ∙ ap (λ x. bytes_number front + 2 ^ (8 * x) * bytes_number rest) long in
    let put = bytes_number-append front new ∙ ap (λ x. bytes_number front + 2 ^ (8 * x) * bytes_number new) long in
    let m : 2 ^ (8 * (bit / 8)) * bytes_number new ≡ 2 ^ (8 * (bit / 8)) * bytes_number rest + 2 ^ bit * value =
    ap (λ x. 2 ^ (8 * (bit / 8)) * x) h ∙ mul-add (2 ^ (8 * (bit / 8))) (bytes_number rest) (2 ^ (bit % 8) * value)
    ∙ ap (λ x. 2 ^ (8 * (bit / 8)) * bytes_number rest + x) (sym (mul_assoc (2 ^ (8 * (bit / 8))) (2 ^ (bit % 8)) value) ∙ ap (λ x. x * value) (sym p)) in
    record {
      same_len = length-append front new ∙ ap (λ n. length front + n) same ∙ sym (length-append front rest) ∙ ap length (sym e);
      sum = put ∙ ap (λ x. bytes_number front + x) m ∙ (let o : bytes_number bytes ≡ bytes_number front + 2 ^ (8 * (bit / 8)) * bytes_number rest = ap bytes_number e ∙ all in omega (arith, o));
    }

-- behind a field that was put nothing stands
pub put_free : (a b : List ℕ) (bit width value : ℕ) → value < 2 ^ width → IsFree a bit → IsPut a bit (field width value ∷ []) b → IsFree b (bit + width)
unfolding AllFit bits_len
put_free a b bit width value fits free put =
    let P : ℕ → Type 0 = λ x. IsFree b (bit + x) in
    let e : width + 0 ≡ width = omega arith in
    subst P e (IsFree-put a b bit (field width value ∷ []) free (fits, tt) put)

-- 29 bits
pub fits_29 : (value width : ℕ) → value < 2 ^ width → width ≤ 29 → value < 2 ^ 29
fits_29 value width h small = let most : 2 ^ width ≤ 2 ^ 29 = pow-le-pow_right {n = 2} (omega arith) {i = width} {j = 29} small in omega (arith, h, most)

-- The steps are linear, so the bits of a byte can be taken from a table.
use Rattle.std.proofs.Common.{◌≡◌, ℕ, zero, suc, ◌+◌, ◌*◌, ◌/◌, ◌%◌, ◌^◌, ◌<◌, ◌∙◌, sym, ap, refl, arith, bit_xor, Bool, true, ◌&&◌, List, [], ◌∷◌, get_or, length, T, eqb, ◌++◌, ◌≤◌, take, drop, take-append-drop, length-drop, get_or-drop}
use Rattle.std.specs.Int.Bits.{xor_assoc, xor_comm, xor_shr, xor_mod, xor_zero_l, xor_zero_r, xor_self, xor_shifted, shifted_half, shifted_even}
use Rattle.std.proofs.lemmas.Nat.{mod_below, pow_pos, shr_split, shr-shr}
use Rattle.std.proofs.Math.Dec.{eqb→eq}
use lib.Ieee.Fits.{and_l, and_r}
use Rattle.byteorder.specs.Endian.{little_number}
use Rattle.ubifs_base.specs.Crc.{feedback, crc_bit, crc_bits, crc_byte, crc_from}

pub xor_swap : (p q r s : ℕ) → bit_xor (bit_xor p q) (bit_xor r s) ≡ bit_xor (bit_xor p r) (bit_xor q s)
xor_swap p q r s =
    xor_assoc p q (bit_xor r s)
    ∙ ap (bit_xor p) (sym (xor_assoc q r s) ∙ ap (λ x. bit_xor x s) (xor_comm q r) ∙ xor_assoc r q s)
    ∙ sym (xor_assoc p r (bit_xor q s))

feedback-xor : (f x y : ℕ) → x < 2 → y < 2 → feedback f (bit_xor x y) ≡ bit_xor (feedback f x) (feedback f y)
feedback-xor f zero zero p q = refl
feedback-xor f zero (suc zero) p q = sym (xor_zero_l f)
feedback-xor f (suc zero) zero p q = sym (xor_zero_r f)
feedback-xor f (suc zero) (suc zero) p q = sym (xor_self f)
feedback-xor f zero (suc (suc y)) p q = omega arith
feedback-xor f (suc zero) (suc (suc y)) p q = omega arith
feedback-xor f (suc (suc x)) y p q = omega arith

pub crc_bit-xor : (f : ℕ) (a b : ℕ) → crc_bit f (bit_xor a b) ≡ bit_xor (crc_bit f a) (crc_bit f b)
crc_bit-xor f a b =
    ap (λ x. bit_xor x (feedback f (bit_xor a b % 2))) (xor_shr a b 1)
    ∙ ap (λ x. bit_xor (bit_xor (a / 2) (b / 2)) (feedback f x)) (xor_mod a b 1)
    ∙ ap (bit_xor (bit_xor (a / 2) (b / 2))) (feedback-xor f (a % 2) (b % 2) (mod_below a 2 (omega arith)) (mod_below b 2 (omega arith)))
    ∙ xor_swap (a / 2) (b / 2) (feedback f (a % 2)) (feedback f (b % 2))

pub crc_bits-xor : (f : ℕ) (n a b : ℕ) → crc_bits f n (bit_xor a b) ≡ bit_xor (crc_bits f n a) (crc_bits f n b)
unfolding crc_bits
crc_bits-xor f zero a b = refl
crc_bits-xor f (suc n) a b = ap (crc_bits f n) (crc_bit-xor f a b) ∙ crc_bits-xor f n (crc_bit f a) (crc_bit f b)

-- bits above those that fall out only move down
pub crc_bits-shifted : (f : ℕ) (n m a : ℕ) → crc_bits f (n + m) (a * 2 ^ n) ≡ crc_bits f m a
unfolding crc_bits
crc_bits-shifted f zero m a = let e : a * 2 ^ 0 ≡ a = omega arith in let none : 0 + m ≡ m = omega arith in rw (e, none) refl
crc_bits-shifted f (suc n) m a =
    let e : suc n + m ≡ suc (n + m) = omega arith in
    rw e (ap (crc_bits f (n + m))
    (ap (λ x. bit_xor x (feedback f (a * 2 ^ suc n % 2))) (shifted_half a n)
    ∙ ap (λ x. bit_xor (a * 2 ^ n) (feedback f x)) (shifted_even a n)
    ∙ xor_zero_r (a * 2 ^ n)) ∙ crc_bits-shifted f n m a)

-- the lowest n bits by themselves, and those above
pub crc_bits-split : (f : ℕ) (n m a : ℕ) → crc_bits f (n + m) a ≡ bit_xor (crc_bits f (n + m) (a % 2 ^ n)) (crc_bits f m (a / 2 ^ n))
crc_bits-split f n m a =
    let low : a % 2 ^ n < 2 ^ n = mod_below a (2 ^ n) (pow_pos n) in
    let whole : a ≡ bit_xor (a % 2 ^ n) (a / 2 ^ n * 2 ^ n) =
    sym (xor_comm (a % 2 ^ n) (a / 2 ^ n * 2 ^ n) ∙ xor_shifted (a / 2 ^ n) n (a % 2 ^ n) low ∙ shr_split a n) in
    ap (crc_bits f (n + m)) whole
    ∙ crc_bits-xor f (n + m) (a % 2 ^ n) (a / 2 ^ n * 2 ^ n)
    ∙ ap (bit_xor (crc_bits f (n + m) (a % 2 ^ n))) (crc_bits-shifted f n m (a / 2 ^ n))

-- each entry is its place from k on after n steps
abbrev pub is_table : ℕ → ℕ → ℕ → List ℕ → Bool
is_table f n k [] = true
is_table f n k (x ∷ xs) = eqb x (crc_bits f n k) && is_table f n (k + 1) xs

pub is_table-at : (f n k : ℕ) (xs : List ℕ) (i j : ℕ) → T (is_table f n k xs) → i < length xs → j ≡ k + i → get_or xs i 0 ≡ crc_bits f n j
is_table-at f n k [] i j t h e = absurd (omega arith)
is_table-at f n k (x ∷ xs) zero j t h e = let s : k ≡ j = omega arith in eqb→eq _ _ (and_l _ _ t) ∙ ap (crc_bits f n) s
is_table-at f n k (x ∷ xs) (suc i) j t h e = is_table-at f n (k + 1) xs i j (and_r (eqb x (crc_bits f n k)) _ t) (omega arith) (omega arith)

-- each row is a table of 256 entries, of 8 more steps than the row before
abbrev pub are_tables : ℕ → ℕ → List (List ℕ) → Bool
are_tables f n [] = true
are_tables f n (row ∷ rows) = (eqb (length row) 256 && is_table f (8 * n) 0 row) && are_tables f (n + 1) rows

pub are_tables-at : (f n : ℕ) (rows : List (List ℕ)) (r m byte : ℕ) → T (are_tables f n rows) → r < length rows → m ≡ n + r → byte < 256
    → get_or (get_or rows r []) byte 0 ≡ crc_bits f (8 * m) byte
are_tables-at f n [] r m byte t h e b = absurd (omega arith)
are_tables-at f n (row ∷ rows) zero m byte t h e b =
    let both = and_l (eqb (length row) 256 && is_table f (8 * n) 0 row) _ t in
    let wide : length row ≡ 256 = eqb→eq _ _ (and_l (eqb (length row) 256) _ both) in
    let same : n ≡ m = omega arith in
    is_table-at f (8 * n) 0 row byte byte (and_r (eqb (length row) 256) _ both) (omega arith) (omega arith) ∙ ap (λ k. crc_bits f (8 * k) byte) same
are_tables-at f n (row ∷ rows) (suc r) m byte t h e b =
    are_tables-at f (n + 1) rows r m byte (and_r (eqb (length row) 256 && is_table f (8 * n) 0 row) _ t) (omega arith) (omega arith) b

-- a byte by a table of the steps of one byte
pub crc_byte-from_table : (f : ℕ) (crc byte : ℕ) → byte < 2 ^ 8 → crc_byte f crc byte ≡ bit_xor (crc_bits f 8 (bit_xor crc byte % 256)) (crc / 256)
unfolding crc_bits
crc_byte-from_table f crc byte h =
    let none : byte / 256 ≡ 0 = omega arith in
    crc_bits-split f 8 0 (bit_xor crc byte)
    ∙ ap (bit_xor (crc_bits f 8 (bit_xor crc byte % 256))) (xor_shr crc byte 8 ∙ ap (bit_xor (crc / 256)) none ∙ xor_zero_r (crc / 256))

pub crc_bits-add : (f : ℕ) (n m a : ℕ) → crc_bits f (n + m) a ≡ crc_bits f m (crc_bits f n a)
unfolding crc_bits
crc_bits-add f zero m a = let e : 0 + m ≡ m = omega arith in rw e refl
crc_bits-add f (suc n) m a = let e : suc n + m ≡ suc (n + m) = omega arith in rw e (crc_bits-add f n m (crc_bit f a))

-- a byte by itself, and the bytes above it
pub crc_bits-byte : (f : ℕ) (m a : ℕ) → crc_bits f (8 + m) a ≡ bit_xor (crc_bits f (8 + m) (a % 256)) (crc_bits f m (a / 256))
crc_bits-byte f m a = crc_bits-split f 8 m a

-- four bytes of a word, each by itself
pub crc_bits-word : (f : ℕ) (m a : ℕ) → crc_bits f (32 + m) a
    ≡ bit_xor (crc_bits f (32 + m) (a % 256)) (bit_xor (crc_bits f (24 + m) (a / 256 % 256)) (bit_xor (crc_bits f (16 + m) (a / 65536 % 256)) (crc_bits f (8 + m) (a / 16777216))))
crc_bits-word f m a =
    let e1 : 8 + (24 + m) ≡ 32 + m = omega arith in
    let e2 : 8 + (16 + m) ≡ 24 + m = omega arith in
    let e3 : 8 + (8 + m) ≡ 16 + m = omega arith in
    let s1 = rw e1 at (crc_bits-byte f (24 + m) a) in
    let s2 = rw e2 at (crc_bits-byte f (16 + m) (a / 256)) in
    let s3 = rw e3 at (crc_bits-byte f (8 + m) (a / 256 / 256)) in
    let d2 : a / 256 / 256 ≡ a / 65536 = shr-shr a 8 8 in
    let d3 : a / 65536 / 256 ≡ a / 16777216 = shr-shr a 16 8 in
    let t3 = rw d3 at (rw d2 at s3) in
    let t2 = rw d2 at s2 in
    s1 ∙ ap (bit_xor (crc_bits f (32 + m) (a % 256))) (t2 ∙ ap (bit_xor (crc_bits f (24 + m) (a / 256 % 256))) t3)

-- the bytes as a number, the lowest first
abbrev pub number : List ℕ → ℕ
number [] = 0
number (b ∷ bs) = b + 256 * number bs

abbrev pub eight_times_length : List ℕ → ℕ
eight_times_length [] = 0
eight_times_length (b ∷ bs) = 8 + eight_times_length bs

pub crc_from-number : (f : ℕ) (bs : List ℕ) (c : ℕ) → ((i : ℕ) → get_or bs i 0 < 256) → crc_from f c bs ≡ crc_bits f (eight_times_length bs) (bit_xor c (number bs))
unfolding crc_bits
crc_from-number f [] c h = sym (xor_zero_r c)
crc_from-number f (b ∷ bs) c h =
    let k = eight_times_length bs in
    let n = number bs in
    let fits : b < 2 ^ 8 = h 0 in
    let joined : b + 256 * n ≡ bit_xor b (n * 2 ^ 8) = sym (xor_comm b (n * 2 ^ 8) ∙ xor_shifted n 8 b fits ∙ (let e : n * 2 ^ 8 + b ≡ b + 256 * n = omega arith in e)) in
    crc_from-number f bs (crc_byte f c b) (λ i. h (suc i))
    ∙ sym (ap (λ x. crc_bits f (8 + k) (bit_xor c x)) joined
    ∙ ap (crc_bits f (8 + k)) (sym (xor_assoc c b (n * 2 ^ 8)))
    ∙ crc_bits-add f 8 k (bit_xor (bit_xor c b) (n * 2 ^ 8))
    ∙ ap (crc_bits f k) (crc_bits-xor f 8 (bit_xor c b) (n * 2 ^ 8) ∙ ap (bit_xor (crc_byte f c b)) (crc_bits-shifted f 8 0 n)))

pub crc_from-append : (f : ℕ) (xs ys : List ℕ) (c : ℕ) → crc_from f c (xs ++ ys) ≡ crc_from f (crc_from f c xs) ys
crc_from-append f [] ys c = refl
crc_from-append f (x ∷ xs) ys c = crc_from-append f xs ys (crc_byte f c x)

four_fit : (a b c d : ℕ) → a < 256 → b < 256 → c < 256 → d < 256 → (i : ℕ) → get_or (a ∷ b ∷ c ∷ d ∷ []) i 0 < 256
four_fit a b c d ha hb hc hd zero = ha
four_fit a b c d ha hb hc hd (suc zero) = hb
four_fit a b c d ha hb hc hd (suc (suc zero)) = hc
four_fit a b c d ha hb hc hd (suc (suc (suc zero))) = hd
four_fit a b c d ha hb hc hd (suc (suc (suc (suc i)))) = omega arith

-- four bytes as a word
pub crc_from-word : (f n : ℕ) (bs : List ℕ) (c : ℕ) → 4 ≤ length bs → ((i : ℕ) → get_or bs i 0 < 256)
    → crc_from f c (take (suc (suc (suc (suc n)))) bs) ≡ crc_from f (crc_bits f 32 (bit_xor c (little_number 4 bs))) (take n (drop 4 bs))
crc_from-word f n (b0 ∷ b1 ∷ b2 ∷ b3 ∷ bs) c long h =
    let front = b0 ∷ b1 ∷ b2 ∷ b3 ∷ [] in
    ap (λ x. crc_from f x (take n bs)) (crc_from-number f front c (four_fit b0 b1 b2 b3 (h 0) (h 1) (h 2) (h 3)))
crc_from-word f n [] c long h = omega arith
crc_from-word f n (b0 ∷ []) c long h = omega arith
crc_from-word f n (b0 ∷ b1 ∷ []) c long h = omega arith
crc_from-word f n (b0 ∷ b1 ∷ b2 ∷ []) c long h = omega arith

-- 32 more steps of a sum
later : (f n a x : ℕ) → crc_bits f 32 (bit_xor (crc_bits f n a) x) ≡ bit_xor (crc_bits f (n + 32) a) (crc_bits f 32 x)
later f n a x = crc_bits-xor f 32 (crc_bits f n a) x ∙ ap (λ y. bit_xor y (crc_bits f 32 x)) (sym (crc_bits-add f n 32 a))

-- four words by themselves
four_words : (f a b c d : ℕ) → crc_bits f 32 (bit_xor (crc_bits f 32 (bit_xor (crc_bits f 32 (bit_xor (crc_bits f 32 a) b)) c)) d)
    ≡ bit_xor (bit_xor (crc_bits f 128 a) (crc_bits f 96 b)) (bit_xor (crc_bits f 64 c) (crc_bits f 32 d))
four_words f a b c d =
    let B : ℕ → ℕ → ℕ = crc_bits f in
    let two : B 32 (bit_xor (B 32 a) b) ≡ bit_xor (B 64 a) (B 32 b) = later f 32 a b in
    let wider : B 32 (bit_xor (B 64 a) (B 32 b)) ≡ bit_xor (B 96 a) (B 64 b) = later f 64 a (B 32 b) ∙ ap (bit_xor (B 96 a)) (sym (crc_bits-add f 32 32 b)) in
    let three : B 32 (bit_xor (bit_xor (B 64 a) (B 32 b)) c) ≡ bit_xor (bit_xor (B 96 a) (B 64 b)) (B 32 c) =
    crc_bits-xor f 32 (bit_xor (B 64 a) (B 32 b)) c ∙ ap (λ x. bit_xor x (B 32 c)) wider in
    let widest : B 32 (bit_xor (B 96 a) (B 64 b)) ≡ bit_xor (B 128 a) (B 96 b) = later f 96 a (B 64 b) ∙ ap (bit_xor (B 128 a)) (sym (crc_bits-add f 64 32 b)) in
    let four : B 32 (bit_xor (bit_xor (bit_xor (B 96 a) (B 64 b)) (B 32 c)) d) ≡ bit_xor (bit_xor (bit_xor (B 128 a) (B 96 b)) (B 64 c)) (B 32 d) =
    crc_bits-xor f 32 (bit_xor (bit_xor (B 96 a) (B 64 b)) (B 32 c)) d
    ∙ ap (λ x. bit_xor x (B 32 d)) (crc_bits-xor f 32 (bit_xor (B 96 a) (B 64 b)) (B 32 c)
    ∙ ap (λ x. bit_xor x (B 32 (B 32 c))) widest
    ∙ ap (bit_xor (bit_xor (B 128 a) (B 96 b))) (sym (crc_bits-add f 32 32 c))) in
    ap (λ x. B 32 (bit_xor (B 32 (bit_xor x c)) d)) two
    ∙ ap (λ x. B 32 (bit_xor x d)) three
    ∙ four
    ∙ xor_assoc (bit_xor (B 128 a) (B 96 b)) (B 64 c) (B 32 d)

-- sixteen bytes as four words
pub crc_from-sixteen : (f : ℕ) (bs : List ℕ) (c : ℕ) → 16 ≤ length bs → ((i : ℕ) → get_or bs i 0 < 256)
    → let second = drop 4 bs in let third = drop 4 second in let fourth = drop 4 third in
    crc_from f c (take 16 bs) ≡ bit_xor (bit_xor (crc_bits f 96 (little_number 4 second)) (bit_xor (crc_bits f 64 (little_number 4 third)) (crc_bits f 32 (little_number 4 fourth))))
    (crc_bits f 128 (bit_xor c (little_number 4 bs)))
crc_from-sixteen f bs c long h =
    let second = drop 4 bs in
    let third = drop 4 second in
    let fourth = drop 4 third in
    let earliest = crc_bits f 128 (bit_xor c (little_number 4 bs)) in
    let last = bit_xor (crc_bits f 64 (little_number 4 third)) (crc_bits f 32 (little_number 4 fourth)) in
    let long2 : 12 ≤ length second = rw length-drop (omega arith) in
    let long3 : 8 ≤ length third = rw length-drop (omega arith) in
    let long4 : 4 ≤ length fourth = rw length-drop (omega arith) in
    let h2 : (i : ℕ) → get_or second i 0 < 256 = λ i. rw get_or-drop (h (4 + i)) in
    let h3 : (i : ℕ) → get_or third i 0 < 256 = λ i. rw get_or-drop (h2 (4 + i)) in
    let h4 : (i : ℕ) → get_or fourth i 0 < 256 = λ i. rw get_or-drop (h3 (4 + i)) in
    crc_from-word f 12 bs c (omega arith) h
    ∙ crc_from-word f 8 second _ (omega arith) h2
    ∙ crc_from-word f 4 third _ (omega arith) h3
    ∙ crc_from-word f 0 fourth _ (omega arith) h4
    ∙ four_words f (bit_xor c (little_number 4 bs)) (little_number 4 second) (little_number 4 third) (little_number 4 fourth)
    ∙ xor_assoc earliest (crc_bits f 96 (little_number 4 second)) last
    ∙ xor_comm earliest (bit_xor (crc_bits f 96 (little_number 4 second)) last)

-- the front first, and then the back
pub crc_from_parts : (f : ℕ) (n : ℕ) (bs : List ℕ) (c : ℕ) → crc_from f (crc_from f c (take n bs)) (drop n bs) ≡ crc_from f c bs
crc_from_parts f n bs c = sym (crc_from-append f (take n bs) (drop n bs) c) ∙ ap (crc_from f c) (take-append-drop n bs)

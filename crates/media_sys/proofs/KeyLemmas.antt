-- Keys in bytes.
use Rattle.std.proofs.Common.{◌≡◌, ℕ, ◌+◌, ◌*◌, ◌/◌, ◌%◌, ◌^◌, ◌<◌, ◌≤◌, List, [], ◌∷◌, ◌++◌, length, take, drop, Some, refl, sym, ap, ◌∙◌, arith, length-take, take-append-drop, append_assoc}
use Rattle.byteorder.specs.Endian.{little_bytes, little_number}
use Rattle.byteorder.specs.Numbers.{little_number-reads_back}
use Rattle.ubifs_base.specs.Key.{IsKey, key_words, key_from, key_of}
use Rattle.ubifs_base.specs.KeyLaws.{HasWords, key_of-some}
use Rattle.ubifs_base.specs.NodeLaws.{IsBytes}
use Rattle.ubifs_base.specs.declared.key.Key.{Key}
use Rattle.ubifs_base.specs.declared.key.Key.TheVariants.{Ino, Block, Dent, Xent}
use Rattle.media_sys.proofs.SuperLemmas.{take_byte}

-- a key is read from eight bytes, and what follows them is not looked at
pub key_of-take : (bytes : List ℕ) → 8 ≤ length bytes → key_of (take 8 bytes) ≡ key_of bytes
unfolding key_of
key_of-take [] long = absurd (omega arith)
key_of-take (a ∷ []) long = absurd (omega arith)
key_of-take (a ∷ b ∷ []) long = absurd (omega arith)
key_of-take (a ∷ b ∷ c ∷ []) long = absurd (omega arith)
key_of-take (a ∷ b ∷ c ∷ d ∷ []) long = absurd (omega arith)
key_of-take (a ∷ b ∷ c ∷ d ∷ e ∷ []) long = absurd (omega arith)
key_of-take (a ∷ b ∷ c ∷ d ∷ e ∷ f ∷ []) long = absurd (omega arith)
key_of-take (a ∷ b ∷ c ∷ d ∷ e ∷ f ∷ g ∷ []) long = absurd (omega arith)
key_of-take (a ∷ b ∷ c ∷ d ∷ e ∷ f ∷ g ∷ h ∷ rest) long = refl

-- the words of a key are below 2^32
pub words_fit : (key : Key) → IsKey key → ((key_words key).0 < 2 ^ 32) × ((key_words key).1 < 2 ^ 32)
words_fit (Ino ino) h = (h, omega arith)
words_fit (Block ino block) h = (h.0, omega (arith, h.1))
words_fit (Dent dir hash) h = (h.0, omega (arith, h.1))
words_fit (Xent ino hash) h = (h.0, omega (arith, h.1))

-- two words make the key that has them
pub key_from-words : (key : Key) → IsKey key → key_from (key_words key).0 (key_words key).1 ≡ Some key
key_from-words (Ino ino) h = refl
key_from-words (Block ino block) h =
    let kind : (1 * 2 ^ 29 + block) / 2 ^ 29 ≡ 1 = omega (arith, h.1) in
    let value : (1 * 2 ^ 29 + block) % 2 ^ 29 ≡ block = omega (arith, h.1) in
    rw (kind, value) refl
key_from-words (Dent dir hash) h =
    let kind : (2 * 2 ^ 29 + hash) / 2 ^ 29 ≡ 2 = omega (arith, h.1) in
    let value : (2 * 2 ^ 29 + hash) % 2 ^ 29 ≡ hash = omega (arith, h.1) in
    rw (kind, value) refl
key_from-words (Xent ino hash) h =
    let kind : (3 * 2 ^ 29 + hash) / 2 ^ 29 ≡ 3 = omega (arith, h.1) in
    let value : (3 * 2 ^ 29 + hash) % 2 ^ 29 ≡ hash = omega (arith, h.1) in
    rw (kind, value) refl

-- where a key's words stand, the key is read
pub key_of-words : (bytes : List ℕ) (key : Key) → IsKey key → little_number 4 bytes ≡ (key_words key).0 → little_number 4 (drop 4 bytes) ≡ (key_words key).1 → key_of bytes ≡ Some key
unfolding key_of
key_of-words bytes key h first second = rw (first, second) (key_from-words key h)

-- and where it is read, its words stand
pub words-key_of : (bytes : List ℕ) (key : Key) → IsBytes bytes → 8 ≤ length bytes → key_of bytes ≡ Some key → HasWords (little_number 4 bytes) (little_number 4 (drop 4 bytes)) key
words-key_of bytes key fits long h =
    let eight : List ℕ = take 8 bytes in
    let eight_long : length eight ≡ 8 = length-take 8 bytes ∙ omega (arith, long) in
    let there = key_of-some eight key (λ i. take_byte 8 bytes i fits) eight_long (key_of-take bytes long ∙ h) in
    let w = words_fit key there.0 in
    let whole : bytes ≡ little_bytes 4 (key_words key).0 ++ (little_bytes 4 (key_words key).1 ++ drop 8 bytes) =
    sym (take-append-drop 8 bytes) ∙ ap (λ (b : List ℕ). b ++ drop 8 bytes) (sym there.1) ∙ append_assoc (little_bytes 4 (key_words key).0) (little_bytes 4 (key_words key).1) (drop 8 bytes) in
    record {
      fits = there.0;
      first_word = sym (ap (little_number 4) whole ∙ little_number-reads_back 4 (key_words key).0 (little_bytes 4 (key_words key).1 ++ drop 8 bytes) w.0);
      second_word = sym (ap (λ (b : List ℕ). little_number 4 (drop 4 b)) whole ∙ little_number-reads_back 4 (key_words key).1 (drop 8 bytes) w.1);
    }

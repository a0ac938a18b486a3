-- Keys are read as they were written.
use Rattle.std.specs.Prelude.{◌≡◌, ℕ, ◌+◌, ◌*◌, ◌/◌, ◌%◌, ◌^◌, ◌<◌, ◌==◌, List, [], ◌++◌, length, take, drop, Some}
use Rattle.std.proofs.Common.{refl, ap, ◌∙◌, arith, subst, inl, inr, length-drop, get_or-drop, take-append-drop, take_all}
use Rattle.std.proofs.lemmas.Bool.{cases_Bool, eqb-true}
use Rattle.byteorder.specs.Endian.{little_bytes, little_number}
use Rattle.byteorder.specs.Numbers.{little_from-lt, little_number-reads_back}
use Rattle.ubifs_base.specs.Key.{key_words, IsKey, key_spelled, key_from, key_of}
use Rattle.ubifs_base.specs.NodeLaws.{IsBytes, little_bytes-number}
use Rattle.ubifs_base.specs.declared.key.Key.{Key}
use Rattle.ubifs_base.specs.declared.key.Key.TheVariants.{Ino, Block, Dent, Xent}

-- the key has these two words, and its parts fit
pub record HasWords (first second : ℕ) (key : Key) : Type 0 where
  pub fits : IsKey key
  pub first_word : (key_words key).0 ≡ first
  pub second_word : (key_words key).1 ≡ second

key_from-some : (a b : ℕ) (key : Key) → a < 2 ^ 32 → key_from a b ≡ Some key → HasWords a b key
key_from-some a b key fits h =
    let kind = b / 2 ^ 29 in
    let value = b % 2 ^ 29 in
    let P : Key → Type 0 = λ k. HasWords a b k in
    elim (cases_Bool (kind == 0)) [
      | inl e ↦ elim (cases_Bool (value == 0)) [
        | inl z ↦
            let zero_kind = eqb-true kind 0 e in
            let zero_value = eqb-true value 0 z in
            let taken = rw z at (rw e at h) in
            let same : Ino a ≡ key = cc in
            subst P same (record { fits = fits; first_word = refl; second_word = omega arith })
        | inr z ↦ let none = rw z at (rw e at h) in absurd cc
      ]
      | inr e ↦ elim (cases_Bool (kind == 1)) [
        | inl one ↦
            let is_one = eqb-true kind 1 one in
            let taken = rw one at (rw e at h) in
            let same : Block a value ≡ key = cc in
            subst P same (record { fits = (fits, omega arith); first_word = refl; second_word = omega arith })
        | inr one ↦ elim (cases_Bool (kind == 2)) [
          | inl two ↦
              let is_two = eqb-true kind 2 two in
              let taken = rw two at (rw one at (rw e at h)) in
              let same : Dent a value ≡ key = cc in
              subst P same (record { fits = (fits, omega arith); first_word = refl; second_word = omega arith })
          | inr two ↦ elim (cases_Bool (kind == 3)) [
            | inl three ↦
                let is_three = eqb-true kind 3 three in
                let taken = rw three at (rw two at (rw one at (rw e at h))) in
                let same : Xent a value ≡ key = cc in
                subst P same (record { fits = (fits, omega arith); first_word = refl; second_word = omega arith })
            | inr three ↦ let none = rw three at (rw two at (rw one at (rw e at h))) in absurd cc
          ]
        ]
      ]
    ]

-- the key that is read spells the bytes
pub key_of-some : (bytes : List ℕ) (key : Key) → IsBytes bytes → length bytes ≡ 8 → key_of bytes ≡ Some key → IsKey key × (key_spelled key ≡ bytes)
unfolding key_of
key_of-some bytes key fits long h =
    let back = drop 4 bytes in
    let back_fits : IsBytes back = λ i. rw get_or-drop (fits (4 + i)) in
    let back_long : length back ≡ 4 = rw length-drop (omega (arith, long)) in
    let words = key_from-some (little_number 4 bytes) (little_number 4 back) key (little_from-lt 0 4 bytes fits) h in (
      words.fits,
      ap (λ w. little_bytes 4 w ++ little_bytes 4 (key_words key).1) words.first_word
          ∙ ap (λ w. little_bytes 4 (little_number 4 bytes) ++ little_bytes 4 w) words.second_word
          ∙ ap (λ front. front ++ little_bytes 4 (little_number 4 back)) (little_bytes-number 4 bytes (omega (arith, long)) fits)
          ∙ ap (λ rest. take 4 bytes ++ rest) (little_bytes-number 4 back (omega (arith, back_long)) back_fits ∙ take_all 4 back (omega (arith, back_long)))
          ∙ take-append-drop 4 bytes,
    )

words_back : (a b : ℕ) → a < 2 ^ 32 → b < 2 ^ 32 → key_of (little_bytes 4 a ++ little_bytes 4 b) ≡ key_from a b
unfolding key_of
words_back a b fits_a fits_b =
    ap (λ w. key_from w (little_number 4 (little_bytes 4 b))) (little_number-reads_back 4 a (little_bytes 4 b) fits_a)
    ∙ ap (key_from a) (little_number-reads_back 4 b [] fits_b)

-- what spells a key is read as that key
pub key_of-spelled : (key : Key) → IsKey key → key_of (key_spelled key) ≡ Some key
key_of-spelled (Ino ino) h = words_back ino 0 h (omega arith)
key_of-spelled (Block ino block) h =
    let kind : (1 * 2 ^ 29 + block) / 2 ^ 29 ≡ 1 = omega (arith, h.1) in
    let value : (1 * 2 ^ 29 + block) % 2 ^ 29 ≡ block = omega (arith, h.1) in
    words_back ino (1 * 2 ^ 29 + block) h.0 (omega (arith, h.1)) ∙ rw (kind, value) refl
key_of-spelled (Dent dir hash) h =
    let kind : (2 * 2 ^ 29 + hash) / 2 ^ 29 ≡ 2 = omega (arith, h.1) in
    let value : (2 * 2 ^ 29 + hash) % 2 ^ 29 ≡ hash = omega (arith, h.1) in
    words_back dir (2 * 2 ^ 29 + hash) h.0 (omega (arith, h.1)) ∙ rw (kind, value) refl
key_of-spelled (Xent ino hash) h =
    let kind : (3 * 2 ^ 29 + hash) / 2 ^ 29 ≡ 3 = omega (arith, h.1) in
    let value : (3 * 2 ^ 29 + hash) % 2 ^ 29 ≡ hash = omega (arith, h.1) in
    words_back ino (3 * 2 ^ 29 + hash) h.0 (omega (arith, h.1)) ∙ rw (kind, value) refl

-- Each fault comes exactly where its cause stands.
use Rattle.std.specs.Prelude.{◌≡◌, ◌≢◌, ◌↔◌, ◌⊎◌, ℕ, ◌==◌, ◌||◌, not, nat_lt, Bool, true, false, cond, List, length, drop, slice_index, Result, Ok, Err}
use Rattle.std.proofs.Common.{refl, inl, inr}
use Rattle.std.proofs.lemmas.Bool.{cases_Bool, ltb-true, ltb-false, lt-ltb, le-ltb, eqb-true, eq-eqb}
use Rattle.byteorder.specs.Endian.{little_number}
use Rattle.ubifs_base.specs.declared.header.Head.{Head}
use Rattle.ubifs_base.specs.declared.header.FrameFault.{FrameFault}
use Rattle.ubifs_base.specs.declared.header.FrameFault.TheVariants.{Short, Magic, Len, Crc}
use Rattle.ubifs_base.specs.declared.header.TheConstants.{MAGIC}
use Rattle.ubifs_base.specs.Frame.{magic_at, crc_at, len_at, crc_wanted, unframed, IsShort, HasOtherMagic, HasBadLen, HasOtherCrc}

-- the chain of tests
abbrev tests : (a b c d e : Bool) (s m l w f : ℕ) (x : Head) → Result Head FrameFault
tests a b c d e s m l w f x =
    cond a (Err (Short s)) (cond (not b) (Err (Magic m)) (cond (c || d) (Err (Len l)) (cond (not e) (Err (Crc w f)) (Ok x))))

tests-short : (a b c d e : Bool) (s m l w f n : ℕ) (x : Head) → tests a b c d e s m l w f x ≡ Err (Short n) → a ≡ true
tests-short true b c d e s m l w f n x h = refl
tests-short false false c d e s m l w f n x h = absurd cc
tests-short false true true d e s m l w f n x h = absurd cc
tests-short false true false true e s m l w f n x h = absurd cc
tests-short false true false false false s m l w f n x h = absurd cc
tests-short false true false false true s m l w f n x h = absurd cc

tests-magic : (a b c d e : Bool) (s m l w f n : ℕ) (x : Head) → tests a b c d e s m l w f x ≡ Err (Magic n) → (a ≡ false) × (b ≡ false)
tests-magic true b c d e s m l w f n x h = absurd cc
tests-magic false false c d e s m l w f n x h = (refl, refl)
tests-magic false true true d e s m l w f n x h = absurd cc
tests-magic false true false true e s m l w f n x h = absurd cc
tests-magic false true false false false s m l w f n x h = absurd cc
tests-magic false true false false true s m l w f n x h = absurd cc

tests-len : (a b c d e : Bool) (s m l w f n : ℕ) (x : Head) → tests a b c d e s m l w f x ≡ Err (Len n) → (a ≡ false) × (b ≡ true) × ((c ≡ true) ⊎ (d ≡ true))
tests-len true b c d e s m l w f n x h = absurd cc
tests-len false false c d e s m l w f n x h = absurd cc
tests-len false true true d e s m l w f n x h = (refl, refl, inl refl)
tests-len false true false true e s m l w f n x h = (refl, refl, inr refl)
tests-len false true false false false s m l w f n x h = absurd cc
tests-len false true false false true s m l w f n x h = absurd cc

tests-crc : (a b c d e : Bool) (s m l w f n k : ℕ) (x : Head) → tests a b c d e s m l w f x ≡ Err (Crc n k) → (a ≡ false) × (b ≡ true) × (c ≡ false) × (d ≡ false) × (e ≡ false)
tests-crc true b c d e s m l w f n k x h = absurd cc
tests-crc false false c d e s m l w f n k x h = absurd cc
tests-crc false true true d e s m l w f n k x h = absurd cc
tests-crc false true false true e s m l w f n k x h = absurd cc
tests-crc false true false false false s m l w f n k x h = (refl, refl, refl, refl, refl)
tests-crc false true false false true s m l w f n k x h = absurd cc

not_equal : (a b : ℕ) → (a == b) ≡ false → a ≢ b
not_equal a b h e = let same = eq-eqb a b e in absurd cc

unequal : (a b : ℕ) → a ≢ b → (a == b) ≡ false
unequal a b h = elim (cases_Bool (a == b)) [ inl same ↦ absurd (h (eqb-true a b same)) | inr other ↦ other ]

-- the head that would be read
abbrev read_head : List ℕ → Head
read_head bytes = record { sqnum = little_number 8 (drop 8 bytes); len = len_at bytes; kind = slice_index bytes 20; group = slice_index bytes 21 }

pub unframed-short : (bytes : List ℕ) → IsShort bytes ↔ (unframed bytes ≡ Err (Short (length bytes)))
unfolding unframed
unframed-short bytes = (
  λ h. rw (lt-ltb (length bytes) 24 h) refl,
  λ h. ltb-true (length bytes) 24
      (tests-short (nat_lt (length bytes) 24) (magic_at bytes == MAGIC) (nat_lt (len_at bytes) 24) (nat_lt (length bytes) (len_at bytes)) (crc_at bytes == crc_wanted bytes)
      (length bytes) (magic_at bytes) (len_at bytes) (crc_wanted bytes) (crc_at bytes) (length bytes) (read_head bytes) h),
)

pub unframed-magic : (bytes : List ℕ) → HasOtherMagic bytes ↔ (unframed bytes ≡ Err (Magic (magic_at bytes)))
unfolding unframed
unframed-magic bytes = (
  λ h. rw (le-ltb (length bytes) 24 h.long, unequal (magic_at bytes) MAGIC h.other) refl,
  λ h. let parts = tests-magic (nat_lt (length bytes) 24) (magic_at bytes == MAGIC) (nat_lt (len_at bytes) 24) (nat_lt (length bytes) (len_at bytes)) (crc_at bytes == crc_wanted bytes)
      (length bytes) (magic_at bytes) (len_at bytes) (crc_wanted bytes) (crc_at bytes) (magic_at bytes) (read_head bytes) h in
      record { long = ltb-false (length bytes) 24 parts.0; other = not_equal (magic_at bytes) MAGIC parts.1 },
)

pub unframed-len : (bytes : List ℕ) → HasBadLen bytes ↔ (unframed bytes ≡ Err (Len (len_at bytes)))
unfolding unframed
unframed-len bytes = (
  λ h. let long = le-ltb (length bytes) 24 h.long in let magic = eq-eqb (magic_at bytes) MAGIC h.magic in
      elim h.bad [
        | inl low ↦ rw (long, magic, lt-ltb (len_at bytes) 24 low) refl
        | inr high ↦ elim (cases_Bool (nat_lt (len_at bytes) 24)) [
          | inl low ↦ rw (long, magic, low) refl
          | inr low ↦ rw (long, magic, low, lt-ltb (length bytes) (len_at bytes) high) refl
        ]
      ],
  λ h. let parts = tests-len (nat_lt (length bytes) 24) (magic_at bytes == MAGIC) (nat_lt (len_at bytes) 24) (nat_lt (length bytes) (len_at bytes)) (crc_at bytes == crc_wanted bytes)
      (length bytes) (magic_at bytes) (len_at bytes) (crc_wanted bytes) (crc_at bytes) (len_at bytes) (read_head bytes) h in
      record {
        long = ltb-false (length bytes) 24 parts.0;
        magic = eqb-true (magic_at bytes) MAGIC parts.1;
        bad = elim parts.2 [ inl low ↦ inl (ltb-true (len_at bytes) 24 low) | inr high ↦ inr (ltb-true (length bytes) (len_at bytes) high) ];
      },
)

pub unframed-crc : (bytes : List ℕ) → HasOtherCrc bytes ↔ (unframed bytes ≡ Err (Crc (crc_wanted bytes) (crc_at bytes)))
unfolding unframed
unframed-crc bytes = (
  λ h. rw (le-ltb (length bytes) 24 h.long, eq-eqb (magic_at bytes) MAGIC h.magic, le-ltb (len_at bytes) 24 h.low, le-ltb (length bytes) (len_at bytes) h.high, unequal (crc_at bytes) (crc_wanted bytes) h.other) refl,
  λ h. let parts = tests-crc (nat_lt (length bytes) 24) (magic_at bytes == MAGIC) (nat_lt (len_at bytes) 24) (nat_lt (length bytes) (len_at bytes)) (crc_at bytes == crc_wanted bytes)
      (length bytes) (magic_at bytes) (len_at bytes) (crc_wanted bytes) (crc_at bytes) (crc_wanted bytes) (crc_at bytes) (read_head bytes) h in
      record {
        long = ltb-false (length bytes) 24 parts.0;
        magic = eqb-true (magic_at bytes) MAGIC parts.1;
        low = ltb-false (len_at bytes) 24 parts.2;
        high = ltb-false (length bytes) (len_at bytes) parts.3;
        other = not_equal (crc_at bytes) (crc_wanted bytes) parts.4;
      },
)

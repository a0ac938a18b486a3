-- What a write leaves: its byte where it was written, and all else as it was.
use Rattle.std.proofs.Common.{◌≡◌, ℕ, zero, suc, ◌+◌, ◌-◌, ◌*◌, ◌/◌, ◌%◌, ◌<◌, ◌≤◌, ◌⊎◌, List, [], ◌∷◌, ◌++◌, length, take, drop, get_or, map, refl, ap, sym, ◌∙◌, arith, Bool, true, false, cond, min, inl, inr, Some, length-append, length-take}
use Rattle.std.specs.Prelude.{replicate, unwrap_or, fold}
use Rattle.std.specs.List.{range_with_len}
use Rattle.std.specs.Map.{lookup}
use Rattle.std.specs.BTreeMap.{is_at}
use Rattle.std.proofs.lemmas.Bool.{cases_lt}
use Rattle.std.proofs.lemmas.Bool.Decides.{eqb_tells}
use Rattle.std.proofs.lemmas.List.{length-replicate, get_or_append_left, get_or-append_right, get_or-replicate, get_or-take, get_or-drop, get_or_past}
use Rattle.std.specs.Cmp.{nat_cmp_is}
use Rattle.std.specs.Ordering.{nat_cmp, is_eq, match_ordering}
use Rattle.std.specs.declared.cmp.Ordering.{Ordering}
use Rattle.std.specs.declared.cmp.Ordering.TheVariants.{Less, Equal, Greater}
use Rattle.fs_model.specs.Files.{Blocks, pair_cmp, block_at, byte_at, bytes_from, with_block, overlaid, page_written, with_page, blocks_written}
use Rattle.fs_model.specs.Law.{IsKept}
use Rattle.fs_model.proofs.Ends.{pair_equal}

nat_same : (x : ℕ) → nat_cmp x x ≡ Equal
nat_same x = sym (nat_cmp_is x x Equal refl)

at_same : (ino q : ℕ) → is_at (pair_cmp (ino, q)) (ino, q) ≡ true
at_same ino q = rw (nat_same ino, nat_same q) refl

at_other : (i r ino q : ℕ) → (i ≡ ino → r ≡ q → ⊥) → is_at (pair_cmp (i, r)) (ino, q) ≡ false
at_other i r ino q h = by (pair_cmp (i, r) (ino, q)) refl
  where
    by : (o : Ordering) → pair_cmp (i, r) (ino, q) ≡ o → is_eq o ≡ false
    by Less e = refl
    by Equal e = let same = pair_equal (i, r) (ino, q) e in absurd (h same.0 same.1)
    by Greater e = refl

-- a block that is set is there
pub set_block : (blocks : Blocks) (ino q : ℕ) (bytes : List ℕ) → block_at (with_block blocks ino q bytes) ino q ≡ bytes
set_block [] ino q bytes = rw at_same refl
set_block (entry ∷ blocks) ino q bytes = by (set_block blocks ino q bytes) (pair_cmp (ino, q) entry.0) refl
  where
    by : block_at (with_block blocks ino q bytes) ino q ≡ bytes → (o : Ordering) → pair_cmp (ino, q) entry.0 ≡ o → block_at (match_ordering o (((ino, q), bytes) ∷ entry ∷ blocks) ((entry.0, bytes) ∷ blocks) (entry ∷ with_block blocks ino q bytes)) ino q ≡ bytes
    by more Less e = rw at_same refl
    by more Equal e = rw e refl
    by more Greater e = rw e more

cons_same : (entry : (ℕ × ℕ) × List ℕ) (xs ys : Blocks) (i r : ℕ) → block_at xs i r ≡ block_at ys i r → block_at (entry ∷ xs) i r ≡ block_at (entry ∷ ys) i r
cons_same entry xs ys i r e = by (is_at (pair_cmp (i, r)) entry.0)
  where
    by : (b : Bool) → unwrap_or (cond b (Some entry.1) (lookup (is_at (pair_cmp (i, r))) xs)) [] ≡ unwrap_or (cond b (Some entry.1) (lookup (is_at (pair_cmp (i, r))) ys)) []
    by true = refl
    by false = e

-- and each other block is as it was
pub other_block : (blocks : Blocks) (ino q : ℕ) (bytes : List ℕ) (i r : ℕ) → (i ≡ ino → r ≡ q → ⊥) → block_at (with_block blocks ino q bytes) i r ≡ block_at blocks i r
other_block [] ino q bytes i r h = rw (at_other i r ino q h) refl
other_block (entry ∷ blocks) ino q bytes i r h = by (other_block blocks ino q bytes i r h) (pair_cmp (ino, q) entry.0) refl
  where
    by : block_at (with_block blocks ino q bytes) i r ≡ block_at blocks i r → (o : Ordering) → pair_cmp (ino, q) entry.0 ≡ o → block_at (match_ordering o (((ino, q), bytes) ∷ entry ∷ blocks) ((entry.0, bytes) ∷ blocks) (entry ∷ with_block blocks ino q bytes)) i r ≡ block_at (entry ∷ blocks) i r
    by more Less e = rw (at_other i r ino q h) refl
    by more Equal e =
        let same = pair_equal (ino, q) entry.0 e in
        rw (at_other i r entry.0.0 entry.0.1 (λ a b. h (a ∙ sym same.0) (b ∙ sym same.1))) refl
    by more Greater e = cons_same entry (with_block blocks ino q bytes) blocks i r more

-- the bytes of a page that is written
length_head : (old : List ℕ) (from : ℕ) → length (take from (old ++ replicate (from - length old) 0)) ≡ from
length_head old from = simp (length-append, length-take, length-replicate) (omega arith)

length_middle : (old : List ℕ) (from to byte : ℕ) → from ≤ to → length (take from (old ++ replicate (from - length old) 0) ++ replicate (to - from) byte) ≡ to
length_middle old from to byte h = simp (length-append, length-take, length-replicate) (omega arith)

pub overlaid_inside : (old : List ℕ) (from to byte k : ℕ) → from ≤ k → k < to → get_or (overlaid old from to byte) k 0 ≡ byte
overlaid_inside old from to byte k above below =
    let head = take from (old ++ replicate (from - length old) 0) in
    let len = length_middle old from to byte (omega arith) in
    get_or_append_left (head ++ replicate (to - from) byte) (drop to old) 0 k (omega (arith, len))
    ∙ get_or-append_right head (replicate (to - from) byte) from k 0 (length_head old from) above
    ∙ get_or-replicate (to - from) (k - from) byte 0 (omega arith)

padded_same : (old : List ℕ) (from k : ℕ) → k < from → get_or (old ++ replicate (from - length old) 0) k 0 ≡ get_or old k 0
padded_same old from k below = elim (cases_lt k (length old)) [
  | inl h ↦ get_or_append_left old (replicate (from - length old) 0) 0 k h
  | inr h ↦ get_or-append_right old (replicate (from - length old) 0) (length old) k 0 refl h ∙ get_or-replicate (from - length old) (k - length old) 0 0 (omega arith) ∙ sym (get_or_past old k 0 h)
]

pub overlaid_before : (old : List ℕ) (from to byte k : ℕ) → from ≤ to → k < from → get_or (overlaid old from to byte) k 0 ≡ get_or old k 0
overlaid_before old from to byte k order below =
    let head = take from (old ++ replicate (from - length old) 0) in
    let len = length_middle old from to byte order in
    let front = length_head old from in
    get_or_append_left (head ++ replicate (to - from) byte) (drop to old) 0 k (omega (arith, len))
    ∙ get_or_append_left head (replicate (to - from) byte) 0 k (omega (arith, front))
    ∙ get_or-take from (old ++ replicate (from - length old) 0) k 0 below
    ∙ padded_same old from k below

pub overlaid_behind : (old : List ℕ) (from to byte k : ℕ) → from ≤ to → to ≤ k → get_or (overlaid old from to byte) k 0 ≡ get_or old k 0
overlaid_behind old from to byte k order above =
    let head = take from (old ++ replicate (from - length old) 0) in
    let at : to + (k - to) ≡ k = omega arith in
    get_or-append_right (head ++ replicate (to - from) byte) (drop to old) to k 0 (length_middle old from to byte order) above
    ∙ get_or-drop to old (k - to) 0 ∙ ap (λ m. get_or old m 0) at

-- over the pages from one on
pub untouched : (ino place n byte i r : ℕ) (blocks : Blocks) (first count : ℕ) → (i ≡ ino → first ≤ r → r < first + count → ⊥) → block_at (fold (with_page ino place n byte) blocks (range_with_len first count)) i r ≡ block_at blocks i r
untouched ino place n byte i r blocks first zero h = refl
untouched ino place n byte i r blocks first (suc count) h =
    untouched ino place n byte i r (with_page ino place n byte blocks first) (first + 1) count (λ e low high. h e (omega arith) (omega arith))
    ∙ other_block blocks ino first (page_written blocks ino place n byte first) i r (λ e same. h e (omega (arith, same)) (omega (arith, same)))

pub touched : (ino place n byte q : ℕ) (blocks : Blocks) (first count : ℕ) → first ≤ q → q < first + count → block_at (fold (with_page ino place n byte) blocks (range_with_len first count)) ino q ≡ page_written blocks ino place n byte q
touched ino place n byte q blocks first zero low high = absurd (omega arith)
touched ino place n byte q blocks first (suc count) low high = elim (cases_lt first q) [
  | inl h ↦ touched ino place n byte q (with_page ino place n byte blocks first) (first + 1) count (omega arith) (omega arith)
      ∙ ap (λ old. overlaid old (place - 4096 * q) (min (place + n - 4096 * q) 4096) byte) (other_block blocks ino first (page_written blocks ino place n byte first) ino q (λ e same. omega arith))
  | inr h ↦
      let same : first ≡ q = omega arith in
      untouched ino place n byte ino q (with_page ino place n byte blocks first) (first + 1) count (λ e low high. omega arith)
      ∙ ap (block_at (with_page ino place n byte blocks first) ino) (sym same)
      ∙ set_block blocks ino first (page_written blocks ino place n byte first)
      ∙ ap (page_written blocks ino place n byte) same
]

written_page : (blocks : Blocks) (ino place n byte q : ℕ) → 0 < n → place / 4096 ≤ q → q ≤ (place + n - 1) / 4096 → block_at (blocks_written blocks ino place n byte) ino q ≡ page_written blocks ino place n byte q
written_page blocks ino place n byte q some low high = elim (eqb_tells n 0) [
  | inl none ↦ let e = none.1 in absurd (omega arith)
  | inr more ↦ rw more.0 (touched ino place n byte q blocks (place / 4096) (suc ((place + n - 1) / 4096 - place / 4096)) low (omega arith))
]

other_page : (blocks : Blocks) (ino place n byte i r : ℕ) → (0 < n → i ≡ ino → place / 4096 ≤ r → r ≤ (place + n - 1) / 4096 → ⊥) → block_at (blocks_written blocks ino place n byte) i r ≡ block_at blocks i r
other_page blocks ino place n byte i r h = elim (eqb_tells n 0) [
  | inl none ↦ rw none.0 refl
  | inr more ↦ let other = more.1 in
      let some : 0 < n = elim (cases_lt 0 n) [ inl s ↦ s | inr z ↦ absurd (other (omega arith)) ] in
      rw more.0 (untouched ino place n byte i r blocks (place / 4096) (suc ((place + n - 1) / 4096 - place / 4096)) (λ e low high. h some e low (omega arith)))
]

inside : (blocks : Blocks) (ino place n byte p : ℕ) → place ≤ p → p < place + n → byte_at (blocks_written blocks ino place n byte) ino p ≡ byte
inside blocks ino place n byte p low high =
    let q = p / 4096 in
    ap (λ bytes. get_or bytes (p % 4096) 0) (written_page blocks ino place n byte q (omega arith) (omega arith) (omega arith))
    ∙ overlaid_inside (block_at blocks ino q) (place - 4096 * q) (min (place + n - 4096 * q) 4096) byte (p % 4096) (omega arith) (omega arith)

beside : (blocks : Blocks) (ino place n byte p : ℕ) → 0 < n → place / 4096 ≤ p / 4096 → p / 4096 ≤ (place + n - 1) / 4096 → (p < place) ⊎ (place + n ≤ p)
    → get_or (page_written blocks ino place n byte (p / 4096)) (p % 4096) 0 ≡ get_or (block_at blocks ino (p / 4096)) (p % 4096) 0
beside blocks ino place n byte p some low high (inl h) = overlaid_before (block_at blocks ino (p / 4096)) (place - 4096 * (p / 4096)) (min (place + n - 4096 * (p / 4096)) 4096) byte (p % 4096) (omega arith) (omega arith)
beside blocks ino place n byte p some low high (inr h) = overlaid_behind (block_at blocks ino (p / 4096)) (place - 4096 * (p / 4096)) (min (place + n - 4096 * (p / 4096)) 4096) byte (p % 4096) (omega arith) (omega arith)

on_pages : (place n q : ℕ) → ((0 < n) × (place / 4096 ≤ q) × (q ≤ (place + n - 1) / 4096)) ⊎ (0 < n → place / 4096 ≤ q → q ≤ (place + n - 1) / 4096 → ⊥)
on_pages place n q = elim (cases_lt 0 n) [
  | inr none ↦ inr (λ a b c. omega arith)
  | inl some ↦ elim (cases_lt q (place / 4096)) [
    | inl under ↦ inr (λ a b c. omega arith)
    | inr low ↦ elim (cases_lt ((place + n - 1) / 4096) q) [
      | inl over ↦ inr (λ a b c. omega arith)
      | inr high ↦ inl (some, low, high)
    ]
  ]
]

outside : (blocks : Blocks) (ino place n byte p : ℕ) → (p < place) ⊎ (place + n ≤ p) → byte_at (blocks_written blocks ino place n byte) ino p ≡ byte_at blocks ino p
outside blocks ino place n byte p h = elim (on_pages place n (p / 4096)) [
  | inl on ↦ ap (λ bytes. get_or bytes (p % 4096) 0) (written_page blocks ino place n byte (p / 4096) on.0 on.1 on.2) ∙ beside blocks ino place n byte p on.0 on.1 on.2 h
  | inr off ↦ ap (λ bytes. get_or bytes (p % 4096) 0) (other_page blocks ino place n byte ino (p / 4096) (λ some e low high. off some low high))
]

pub kept : (blocks : Blocks) (ino place n byte : ℕ) → IsKept blocks ino place n byte
kept blocks ino place n byte = record {
  inside = inside blocks ino place n byte;
  outside = outside blocks ino place n byte;
  others = λ other p differs. ap (λ bytes. get_or bytes (p % 4096) 0) (other_page blocks ino place n byte other (p / 4096) (λ some e low high. differs e));
}

copies : (f : ℕ → ℕ) (place n byte : ℕ) → ((p : ℕ) → place ≤ p → p < place + n → f p ≡ byte) → map f (range_with_len place n) ≡ replicate n byte
copies f place zero byte h = refl
copies f place (suc n) byte h = rw (h place (omega arith) (omega arith), copies f (place + 1) n byte (λ p low high. h p (omega arith) (omega arith))) refl

pub read_back : (blocks : Blocks) (ino place n byte : ℕ) → bytes_from (blocks_written blocks ino place n byte) ino place n ≡ replicate n byte
read_back blocks ino place n byte = copies (byte_at (blocks_written blocks ino place n byte) ino) place n byte (inside blocks ino place n byte)

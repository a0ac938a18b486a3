-- Where a file's last block ends, through a write.
use Rattle.std.proofs.Common.{◌≡◌, ℕ, ◌+◌, ◌-◌, ◌*◌, ◌<◌, ◌≤◌, List, [], ◌∷◌, length, refl, sym, arith, Bool, true, false, cond, min, max, subst, inl, inr, Some}
use Rattle.std.specs.Prelude.{unwrap_or, fold}
use Rattle.std.specs.List.{range_with_len}
use Rattle.std.specs.Map.{lookup}
use Rattle.std.specs.BTreeMap.{is_at}
use Rattle.std.proofs.lemmas.Bool.Decides.{eqb_tells}
use Rattle.std.proofs.Common.{length-append, length-take, length-drop}
use Rattle.std.proofs.lemmas.List.{length-replicate}
use Rattle.std.specs.Cmp.{ranks}
use Rattle.std.specs.Ordering.{nat_cmp, is_eq, match_ordering, ordering_then, MatchOrdering}
use Rattle.std.specs.declared.cmp.Ordering.{Ordering}
use Rattle.std.specs.declared.cmp.Ordering.TheVariants.{Less, Equal, Greater}
use Rattle.fs_model.specs.Files.{Blocks, pair_cmp, block_at, with_block, blocks_end, overlaid, with_page, blocks_written}

then_equal : (o p : Ordering) → ordering_then o p ≡ Equal → (o ≡ Equal) × (p ≡ Equal)
then_equal Less p h = absurd cc
then_equal Equal p h = (refl, h)
then_equal Greater p h = absurd cc

nat_equal : (x y : ℕ) → nat_cmp x y ≡ Equal → x ≡ y
nat_equal x y e = let P : Ordering → Type 0 = λ o. MatchOrdering o (x < y) (x ≡ y) (y < x) in subst P e (ranks x y)

pub pair_equal : (a b : ℕ × ℕ) → pair_cmp a b ≡ Equal → (a.0 ≡ b.0) × (a.1 ≡ b.1)
pair_equal a b e = let both = then_equal (nat_cmp a.0 b.0) (nat_cmp a.1 b.1) e in (nat_equal a.0 b.0 both.0, nat_equal a.1 b.1 both.1)

is_equal : (o : Ordering) → is_eq o ≡ true → o ≡ Equal
is_equal Less h = absurd cc
is_equal Equal h = refl
is_equal Greater h = absurd cc

-- a bound on the end of a list of blocks
cons_ends : (key : ℕ × ℕ) (bytes : List ℕ) (blocks : Blocks) (ino m : ℕ) → blocks_end blocks ino ≤ m → (key.0 ≡ ino → 4096 * key.1 + length bytes ≤ m) → blocks_end ((key, bytes) ∷ blocks) ino ≤ m
cons_ends key bytes blocks ino m rest first = elim (eqb_tells key.0 ino) [
  | inl same ↦ let here = first same.1 in rw same.0 (omega (arith, here, rest))
  | inr other ↦ rw other.0 rest
]

ends_cons : (key : ℕ × ℕ) (bytes : List ℕ) (blocks : Blocks) (ino m : ℕ) → blocks_end ((key, bytes) ∷ blocks) ino ≤ m → (blocks_end blocks ino ≤ m) × (key.0 ≡ ino → 4096 * key.1 + length bytes ≤ m)
ends_cons key bytes blocks ino m h = elim (eqb_tells key.0 ino) [
  | inl same ↦ let both = rw same.0 at h in (omega (arith, both), λ e. omega (arith, both))
  | inr other ↦ let rest = rw other.0 at h in (rest, λ e. absurd (other.1 e))
]

pub insert_ends : (blocks : Blocks) (ino block m : ℕ) (bytes : List ℕ) → blocks_end blocks ino ≤ m → 4096 * block + length bytes ≤ m → blocks_end (with_block blocks ino block bytes) ino ≤ m
insert_ends [] ino block m bytes rest here = cons_ends (ino, block) bytes [] ino m rest (λ e. here)
insert_ends (entry ∷ blocks) ino block m bytes rest here =
    let split = ends_cons entry.0 entry.1 blocks ino m rest in
    by split (insert_ends blocks ino block m bytes split.0 here) (pair_cmp (ino, block) entry.0) refl
  where
    by : (blocks_end blocks ino ≤ m) × (entry.0.0 ≡ ino → 4096 * entry.0.1 + length entry.1 ≤ m) → blocks_end (with_block blocks ino block bytes) ino ≤ m → (o : Ordering) → pair_cmp (ino, block) entry.0 ≡ o → blocks_end (match_ordering o (((ino, block), bytes) ∷ entry ∷ blocks) ((entry.0, bytes) ∷ blocks) (entry ∷ with_block blocks ino block bytes)) ino ≤ m
    by split more Less e = cons_ends (ino, block) bytes (entry ∷ blocks) ino m rest (λ e. here)
    by split more Equal e = let same = pair_equal (ino, block) entry.0 e in cons_ends entry.0 bytes blocks ino m split.0 (λ _. let b = same.1 in omega (arith, here, b))
    by split more Greater e = cons_ends entry.0 entry.1 (with_block blocks ino block bytes) ino m more split.1

pub stored_ends : (blocks : Blocks) (ino block m : ℕ) → blocks_end blocks ino ≤ m → 4096 * block ≤ m → 4096 * block + length (block_at blocks ino block) ≤ m
stored_ends [] ino block m rest here = omega (arith, here)
stored_ends (entry ∷ blocks) ino block m rest here =
    let split = ends_cons entry.0 entry.1 blocks ino m rest in
    by split (stored_ends blocks ino block m split.0 here) (is_at (pair_cmp (ino, block)) entry.0) refl
  where
    by : (blocks_end blocks ino ≤ m) × (entry.0.0 ≡ ino → 4096 * entry.0.1 + length entry.1 ≤ m) → 4096 * block + length (block_at blocks ino block) ≤ m → (b : Bool) → is_at (pair_cmp (ino, block)) entry.0 ≡ b → 4096 * block + length (unwrap_or (cond b (Some entry.1) (lookup (is_at (pair_cmp (ino, block))) blocks)) []) ≤ m
    by split more true e = let same = pair_equal (ino, block) entry.0 (is_equal (pair_cmp (ino, block) entry.0) e) in let ends = split.1 (sym same.0) in let b = same.1 in omega (arith, ends, b)
    by split more false e = more

-- a page that is written ends where its bytes do, or where it ended
length_overlaid : (old : List ℕ) (from to byte : ℕ) → from ≤ to → length (overlaid old from to byte) ≤ max (length old) to
length_overlaid old from to byte h = simp (length-append, length-take, length-drop, length-replicate) (omega arith)

pub page_ends : (blocks : Blocks) (ino place n byte page m : ℕ) → blocks_end blocks ino ≤ m → place + n ≤ m → 4096 * page < place + n → place < 4096 * (page + 1) → blocks_end (with_page ino place n byte blocks page) ino ≤ m
page_ends blocks ino place n byte page m rest all starts ends =
    let old = block_at blocks ino page in
    let from = place - 4096 * page in
    let to = min (place + n - 4096 * page) 4096 in
    let len = length_overlaid old from to byte (omega arith) in
    let before = stored_ends blocks ino page m rest (omega arith) in
    insert_ends blocks ino page m (overlaid old from to byte) rest (omega (arith, len, before))

-- the pages that are left make the rest of what is written, and no block ends behind the file or the bytes
pub record WrittenSoFar (old now : Blocks) (ino offs n byte page end : ℕ) : Type 0 where
  pub rest : fold (with_page ino offs n byte) now (range_with_len page (end - page)) ≡ blocks_written old ino offs n byte
  pub ends : blocks_end now ino ≤ max (blocks_end old ino) (offs + n)

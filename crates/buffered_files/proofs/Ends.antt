-- Where the blocks of a file end.
use Rattle.std.proofs.Common.{◌≡◌, ℕ, ◌+◌, ◌-◌, ◌*◌, ◌<◌, ◌≤◌, List, [], ◌∷◌, length, length-append, refl, sym, ap, subst, ◌∙◌, arith, true, cond, max, min, inl, inr, Option, Some, None}
use Rattle.std.specs.Prelude.{◌==◌, ◌&&◌, nat_le, nat_lt, not, replicate, unwrap_or}
use Rattle.std.specs.Cmp.{nat_cmp_is, ranks}
use Rattle.std.specs.List.{list_all}
use Rattle.std.specs.Map.{lookup, keys_of}
use Rattle.std.specs.Option.{option_map_or}
use Rattle.std.specs.BTreeMap.{insert_entry, is_at}
use Rattle.std.specs.Ordering.{nat_cmp, match_ordering, is_lt, MatchOrdering}
use Rattle.std.specs.declared.cmp.Ordering.{Ordering}
use Rattle.std.specs.declared.cmp.Ordering.TheVariants.{Less, Equal, Greater}
use Rattle.std.proofs.lemmas.Bool.{and_parts, false≢true}
use Rattle.std.proofs.lemmas.Bool.Decides.{eqb_tells, nat_tests}
use Rattle.std.proofs.lemmas.List.{length-replicate}
use Rattle.fs_model.specs.Files.{Blocks, pair_cmp, block_at, blocks_end, last_block_of}
use Rattle.fs_model.specs.Path.{is_empty}
use Rattle.fs_model.specs.Proper.{ascends, is_block_node, are_bytes}
use Rattle.buffered_files.specs.Present.{filled, bytes_before_end}
use Rattle.fs_laws.specs.Maps.{all_at, apart, tail_ascends, below_rest}
use Rattle.fs_laws.specs.Orders.{pairs}

-- a bound on the end of a list of blocks
cons_ends : (key : ℕ × ℕ) (bytes : List ℕ) (blocks : Blocks) (ino m : ℕ) → blocks_end blocks ino ≤ m → (key.0 ≡ ino → 4096 * key.1 + length bytes ≤ m) → blocks_end ((key, bytes) ∷ blocks) ino ≤ m
cons_ends key bytes blocks ino m rest first = elim (eqb_tells key.0 ino) [
  | inl same ↦ let here = first same.1 in rw same.0 (omega (arith, here, rest))
  | inr other ↦ rw other.0 rest
]

pub ends_cons : (key : ℕ × ℕ) (bytes : List ℕ) (blocks : Blocks) (ino m : ℕ) → blocks_end ((key, bytes) ∷ blocks) ino ≤ m → (blocks_end blocks ino ≤ m) × (key.0 ≡ ino → 4096 * key.1 + length bytes ≤ m)
ends_cons key bytes blocks ino m h = elim (eqb_tells key.0 ino) [
  | inl same ↦ let both = rw same.0 at h in (omega (arith, both), λ e. omega (arith, both))
  | inr other ↦ let rest = rw other.0 at h in (rest, λ e. absurd (other.1 e))
]

cons_other : (key : ℕ × ℕ) (bytes : List ℕ) (blocks : Blocks) (ino : ℕ) → (key.0 ≡ ino → ⊥) → blocks_end ((key, bytes) ∷ blocks) ino ≡ blocks_end blocks ino
cons_other key bytes blocks ino h = elim (eqb_tells key.0 ino) [
  | inl same ↦ absurd (h same.1)
  | inr other ↦ rw other.0 refl
]

-- a block that ends within a file leaves its end within it
pub insert_ends : (blocks : Blocks) (k : ℕ × ℕ) (bytes : List ℕ) (ino m : ℕ) → blocks_end blocks ino ≤ m → (k.0 ≡ ino → 4096 * k.1 + length bytes ≤ m) → blocks_end (insert_entry pair_cmp blocks k bytes) ino ≤ m
insert_ends [] k bytes ino m rest here = cons_ends k bytes [] ino m rest here
insert_ends (entry ∷ blocks) k bytes ino m rest here =
    let split = ends_cons entry.0 entry.1 blocks ino m rest in
    by split (insert_ends blocks k bytes ino m split.0 here) (pair_cmp k entry.0) refl
  where
    by : (blocks_end blocks ino ≤ m) × (entry.0.0 ≡ ino → 4096 * entry.0.1 + length entry.1 ≤ m) → blocks_end (insert_entry pair_cmp blocks k bytes) ino ≤ m → (o : Ordering) → pair_cmp k entry.0 ≡ o
        → blocks_end (match_ordering o ((k, bytes) ∷ entry ∷ blocks) ((entry.0, bytes) ∷ blocks) (entry ∷ insert_entry pair_cmp blocks k bytes)) ino ≤ m
    by split more Less e = cons_ends k bytes (entry ∷ blocks) ino m rest here
    by split more Equal e = let P : ℕ × ℕ → Type 0 = λ q. q.0 ≡ ino → 4096 * q.1 + length bytes ≤ m in cons_ends entry.0 bytes blocks ino m split.0 (subst P (pairs.exact k entry.0 e) here)
    by split more Greater e = cons_ends entry.0 entry.1 (insert_entry pair_cmp blocks k bytes) ino m more split.1

-- a block of another file leaves a file's end
pub insert_other_ends : (blocks : Blocks) (k : ℕ × ℕ) (bytes : List ℕ) (ino : ℕ) → (k.0 ≡ ino → ⊥) → blocks_end (insert_entry pair_cmp blocks k bytes) ino ≡ blocks_end blocks ino
insert_other_ends [] k bytes ino other = cons_other k bytes [] ino other
insert_other_ends (entry ∷ blocks) k bytes ino other = by (insert_other_ends blocks k bytes ino other) (pair_cmp k entry.0) refl
  where
    by : blocks_end (insert_entry pair_cmp blocks k bytes) ino ≡ blocks_end blocks ino → (o : Ordering) → pair_cmp k entry.0 ≡ o
        → blocks_end (match_ordering o ((k, bytes) ∷ entry ∷ blocks) ((entry.0, bytes) ∷ blocks) (entry ∷ insert_entry pair_cmp blocks k bytes)) ino ≡ blocks_end (entry ∷ blocks) ino
    by more Less e = cons_other k bytes (entry ∷ blocks) ino other
    by more Equal e =
        let at : entry.0.0 ≡ ino → ⊥ = λ same. other (ap (λ q. q.0) (pairs.exact k entry.0 e) ∙ same) in
        cons_other entry.0 bytes blocks ino at ∙ sym (cons_other entry.0 entry.1 blocks ino at)
    by more Greater e = ap (λ rest. cond (entry.0.0 == ino) (max (4096 * entry.0.1 + length entry.1) rest) rest) more

-- a page with zeros up to its file's end ends within it
pub filled_ends : (bytes : List ℕ) (block size : ℕ) → 4096 * block + length bytes ≤ size → 4096 * block + length (filled bytes (bytes_before_end size block)) ≤ size
filled_ends bytes block size inside =
    let len = bytes_before_end size block in
    let n = length-append bytes (replicate (len - length bytes) 0) in
    let m = length-replicate {A = ℕ} (len - length bytes) 0 in
    omega (arith, inside, n, m)

-- a block has at most 4,096 bytes
pub short_block : (k : ℕ × ℕ) (bytes : List ℕ) → is_block_node (k, bytes) ≡ true → length bytes ≤ 4096
short_block k bytes h =
    let a = and_parts (nat_lt k.0 4294967296 && nat_lt k.1 536870912 && not (is_empty bytes) && nat_le (length bytes) 4096) (are_bytes bytes) h in
    let b = and_parts (nat_lt k.0 4294967296 && nat_lt k.1 536870912 && not (is_empty bytes)) (nat_le (length bytes) 4096) a.0 in
    let le : nat_le (length bytes) 4096 ≡ true = b.1 in
    grind (arith, nat_tests)

-- and a number below 2^29
pub low_block : (k : ℕ × ℕ) (bytes : List ℕ) → is_block_node (k, bytes) ≡ true → k.1 < 536870912
low_block k bytes h =
    let a = and_parts (nat_lt k.0 4294967296 && nat_lt k.1 536870912 && not (is_empty bytes) && nat_le (length bytes) 4096) (are_bytes bytes) h in
    let b = and_parts (nat_lt k.0 4294967296 && nat_lt k.1 536870912 && not (is_empty bytes)) (nat_le (length bytes) 4096) a.0 in
    let d = and_parts (nat_lt k.0 4294967296 && nat_lt k.1 536870912) (not (is_empty bytes)) b.0 in
    let e = and_parts (nat_lt k.0 4294967296) (nat_lt k.1 536870912) d.0 in
    let lt : nat_lt k.1 536870912 ≡ true = e.1 in
    grind (arith, nat_tests)

less_is : (x y : ℕ) → is_lt (nat_cmp x y) ≡ true → x < y
less_is x y h = by (nat_cmp x y) (ranks x y) h
  where
    by : (o : Ordering) → MatchOrdering o (x < y) (x ≡ y) (y < x) → is_lt o ≡ true → x < y
    by Less r g = r
    by Equal r g = absurd (false≢true g)
    by Greater r g = absurd (false≢true g)

nat_same : (x : ℕ) → nat_cmp x x ≡ Equal
nat_same x = sym (nat_cmp_is x x Equal refl)

-- of two blocks of one file the greater key has the greater number
above_pair : (a b : ℕ × ℕ) → b.0 ≡ a.0 → is_lt (pair_cmp a b) ≡ true → a.1 < b.1
above_pair a b same lt = less_is a.1 b.1 (rw (same, nat_same a.0) at lt)

last_above : (es : Blocks) (k : ℕ × ℕ) (m : ℕ) → list_all (λ f. is_lt (pair_cmp k f.0)) es ≡ true → last_block_of es k.0 ≡ Some m → k.1 < m
last_above [] k m all found = absurd cc
last_above (f ∷ es) k m all found =
    let parts = and_parts (is_lt (pair_cmp k f.0)) (list_all (λ g. is_lt (pair_cmp k g.0)) es) all in
    elim (eqb_tells f.0.0 k.0) [
      | inl same ↦
          let here : Some (max f.0.1 (unwrap_or (last_block_of es k.0) 0)) ≡ Some m = rw same.0 at found in
          let is : max f.0.1 (unwrap_or (last_block_of es k.0) 0) ≡ m = cc here in
          let lt = above_pair k f.0 same.1 parts.0 in
          omega (arith, is, lt)
      | inr other ↦ last_above es k m parts.1 (rw other.0 at found)
    ]

-- the end of the last block is where a file's blocks end
pub last_end : (blocks : Blocks) (ino : ℕ) → ascends pair_cmp (keys_of blocks) ≡ true → list_all is_block_node blocks ≡ true
    → blocks_end blocks ino ≡ option_map_or (λ last. 4096 * last + length (block_at blocks ino last)) (last_block_of blocks ino) 0
last_end [] ino up nodes = refl
last_end (e ∷ es) ino up nodes =
    let more = last_end es ino (tail_ascends pair_cmp es e up) (and_parts (is_block_node e) (list_all is_block_node es) nodes).1 in
    elim (eqb_tells e.0.0 ino) [
      | inl same ↦ rw same.0 (here same.1 (last_block_of es ino) refl more)
      | inr other ↦ rw other.0 (there other.1 (last_block_of es ino) refl more)
    ]
  where
    passed : (m : ℕ) → ((ino, m) ≡ e.0 → ⊥) → block_at (e ∷ es) ino m ≡ block_at es ino m
    passed m other = rw (apart pair_cmp pairs (ino, m) e.0 other) refl

    there : (e.0.0 ≡ ino → ⊥) → (o : Option ℕ) → last_block_of es ino ≡ o → blocks_end es ino ≡ option_map_or (λ last. 4096 * last + length (block_at es ino last)) o 0
        → blocks_end es ino ≡ option_map_or (λ last. 4096 * last + length (block_at (e ∷ es) ino last)) o 0
    there other None h more = more
    there other (Some m) h more = more ∙ ap (λ bytes. 4096 * m + length bytes) (sym (passed m (λ s. other (ap (λ k. k.0) (sym s)))))

    found : e.0.0 ≡ ino → block_at (e ∷ es) ino e.0.1 ≡ e.1
    found same = rw (ap (λ n. pair_cmp (n, e.0.1) e.0) (sym same) ∙ pairs.same e.0) refl

    here : e.0.0 ≡ ino → (o : Option ℕ) → last_block_of es ino ≡ o → blocks_end es ino ≡ option_map_or (λ last. 4096 * last + length (block_at es ino last)) o 0
        → max (4096 * e.0.1 + length e.1) (blocks_end es ino) ≡ 4096 * max e.0.1 (unwrap_or o 0) + length (block_at (e ∷ es) ino (max e.0.1 (unwrap_or o 0)))
    here same None h more =
        let first : max e.0.1 0 ≡ e.0.1 = omega arith in
        let one : max (4096 * e.0.1 + length e.1) (blocks_end es ino) ≡ 4096 * e.0.1 + length e.1 = omega (arith, more) in
        one ∙ ap (λ bytes. 4096 * e.0.1 + length bytes) (sym (found same)) ∙ ap (λ m. 4096 * m + length (block_at (e ∷ es) ino m)) (sym first)
    here same (Some m) h more =
        let lt = last_above es e.0 m (below_rest pair_cmp pairs es e up) (ap (λ n. last_block_of es n) same ∙ h) in
        let last : max e.0.1 m ≡ m = omega (arith, lt) in
        let short = short_block e.0 e.1 (and_parts (is_block_node e) (list_all is_block_node es) nodes).0 in
        let rest = passed m (λ s. let n : m ≡ e.0.1 = ap (λ k. k.1) s in absurd (omega (arith, n, lt))) in
        let one : max (4096 * e.0.1 + length e.1) (blocks_end es ino) ≡ 4096 * m + length (block_at es ino m) = omega (arith, more, lt, short) in
        one ∙ ap (λ bytes. 4096 * m + length bytes) (sym rest) ∙ ap (λ q. 4096 * q + length (block_at (e ∷ es) ino q)) (sym last)

-- a block that is found has at most 4,096 bytes
pub stored_short : (blocks : Blocks) (ino block : ℕ) → list_all is_block_node blocks ≡ true → length (block_at blocks ino block) ≤ 4096
stored_short blocks ino block nodes = by (lookup (is_at (pair_cmp (ino, block))) blocks) refl
  where
    by : (o : Option (List ℕ)) → lookup (is_at (pair_cmp (ino, block))) blocks ≡ o → length (unwrap_or o []) ≤ 4096
    by None h = omega arith
    by (Some bytes) h = short_block (ino, block) bytes (all_at pair_cmp pairs is_block_node blocks (ino, block) bytes nodes h)

-- where the blocks of a file end that has a last one of so many bytes
pub found_end : (blocks : Blocks) (ino last stored : ℕ) → ascends pair_cmp (keys_of blocks) ≡ true → list_all is_block_node blocks ≡ true → last_block_of blocks ino ≡ Some last → stored ≡ min (length (block_at blocks ino last)) 4096
    → blocks_end blocks ino ≡ 4096 * last + stored
found_end blocks ino last stored up nodes found told =
    let short = stored_short blocks ino last nodes in
    let end = last_end blocks ino up nodes in
    let is : blocks_end blocks ino ≡ 4096 * last + length (block_at blocks ino last) = rw found at end in
    omega (arith, is, short, told)

-- and of one that has none
pub no_end : (blocks : Blocks) (ino : ℕ) → ascends pair_cmp (keys_of blocks) ≡ true → list_all is_block_node blocks ≡ true → last_block_of blocks ino ≡ None → blocks_end blocks ino ≡ 0
no_end blocks ino up nodes none = let end = last_end blocks ino up nodes in rw none at end

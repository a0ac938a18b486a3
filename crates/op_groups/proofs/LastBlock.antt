-- Where the last block of a file ends.
use Rattle.std.proofs.Common.{◌≡◌, ℕ, ◌+◌, ◌*◌, ◌<◌, ◌≤◌, ◌&&◌, Bool, true, false, cond, List, [], ◌∷◌, Option, Some, None, length, max, refl, sym, ap, ◌∙◌, inl, inr, arith}
use Rattle.std.specs.Prelude.{◌==◌, unwrap_or}
use Rattle.std.specs.BTreeMap.{is_at}
use Rattle.std.specs.Cmp.{ranks}
use Rattle.std.specs.List.{list_all}
use Rattle.std.specs.Map.{lookup, keys_of}
use Rattle.std.specs.Ordering.{nat_cmp, is_eq, is_lt, ordering_then, MatchOrdering}
use Rattle.std.specs.declared.cmp.Ordering.{Ordering}
use Rattle.std.specs.declared.cmp.Ordering.TheVariants.{Less, Equal, Greater}
use Rattle.std.proofs.lemmas.Bool.{and_parts, false≢true}
use Rattle.std.proofs.lemmas.Bool.Decides.{eqb_tells, nat_tests}
use Rattle.std.specs.Option.{option_map_or}
use Rattle.fs_model.specs.Files.{Tree, Blocks, pair_cmp, block_at, blocks_end, last_block_of}
use Rattle.fs_model.specs.Proper.{IsProper, ascends, is_block_node}
use Rattle.op_groups.specs.Facts.{IsLastBlock}

at_key : (ino block : ℕ) (k : ℕ × ℕ) → is_at (pair_cmp (ino, block)) k ≡ ((k.0 == ino) && (k.1 == block))
at_key ino block k = by (nat_cmp ino k.0) (ranks ino k.0) (nat_cmp block k.1) (ranks block k.1)
  where
    by : (o : Ordering) → MatchOrdering o (ino < k.0) (ino ≡ k.0) (k.0 < ino) → (p : Ordering) → MatchOrdering p (block < k.1) (block ≡ k.1) (k.1 < block) → is_eq (ordering_then o p) ≡ ((k.0 == ino) && (k.1 == block))
    by Less m p n = grind (arith, nat_tests)
    by Equal m Less n = grind (arith, nat_tests)
    by Equal m Equal n = grind (arith, nat_tests)
    by Equal m Greater n = grind (arith, nat_tests)
    by Greater m p n = grind (arith, nat_tests)

-- a lesser key has a lesser first number, or the same and a lesser second one
less_key : (a b : ℕ × ℕ) → is_lt (pair_cmp a b) ≡ true → (a.0 ≤ b.0) × (a.0 ≡ b.0 → a.1 < b.1)
less_key a b = by (nat_cmp a.0 b.0) (ranks a.0 b.0) (nat_cmp a.1 b.1) (ranks a.1 b.1)
  where
    by : (o : Ordering) → MatchOrdering o (a.0 < b.0) (a.0 ≡ b.0) (b.0 < a.0) → (p : Ordering) → MatchOrdering p (a.1 < b.1) (a.1 ≡ b.1) (b.1 < a.1) → is_lt (ordering_then o p) ≡ true → (a.0 ≤ b.0) × (a.0 ≡ b.0 → a.1 < b.1)
    by Less m p n h = (omega (arith, m), λ e. absurd (omega (arith, m, e)))
    by Equal m Less n h = (omega (arith, m), λ e. n)
    by Equal m Equal n h = absurd (false≢true h)
    by Equal m Greater n h = absurd (false≢true h)
    by Greater m p n h = absurd (false≢true h)

-- an inode whose number is below all that follow has no block there
none_past : (k : ℕ × ℕ) (blocks : Blocks) (ino : ℕ) → ascends pair_cmp (k ∷ keys_of blocks) ≡ true → ino < k.0 → last_block_of blocks ino ≡ None
none_past k [] ino h l = refl
none_past k (e ∷ blocks) ino h l =
    let p = and_parts (is_lt (pair_cmp k e.0)) (ascends pair_cmp (e.0 ∷ keys_of blocks)) h in
    let le = (less_key k e.0 p.0).0 in
    let other : (e.0.0 == ino) ≡ false = grind (arith, nat_tests) in
    rw other (none_past e.0 blocks ino p.1 (omega (arith, l, le)))

-- the last block comes behind each one before
past_first : (k : ℕ × ℕ) (blocks : Blocks) (ino m : ℕ) → ascends pair_cmp (k ∷ keys_of blocks) ≡ true → k.0 ≡ ino → last_block_of blocks ino ≡ Some m → k.1 < m
past_first k [] ino m h s l = absurd cc
past_first k (e ∷ blocks) ino m h s l =
    let p = and_parts (is_lt (pair_cmp k e.0)) (ascends pair_cmp (e.0 ∷ keys_of blocks)) h in
    let less = less_key k e.0 p.0 in
    elim (eqb_tells e.0.0 ino) [
      | inl same ↦
          let here : k.1 < e.0.1 = less.1 (s ∙ sym same.1) in
          let is : Some (max e.0.1 (unwrap_or (last_block_of blocks ino) 0)) ≡ Some m = rw same.0 at l in
          let at : max e.0.1 (unwrap_or (last_block_of blocks ino) 0) ≡ m = cc in
          omega (arith, here, at)
      | inr other ↦
          let le = less.0 in
          let none : last_block_of blocks ino ≡ None = none_past e.0 blocks ino p.1 (let ne = other.1 in omega (arith, le, s, ne)) in
          let is : last_block_of blocks ino ≡ Some m = rw other.0 at l in
          absurd cc
    ]

-- an inode without a block ends nowhere
none_ends : (blocks : Blocks) (ino : ℕ) → last_block_of blocks ino ≡ None → blocks_end blocks ino ≡ 0
none_ends [] ino h = refl
none_ends (e ∷ blocks) ino h = elim (eqb_tells e.0.0 ino) [
  | inl same ↦ let is = rw same.0 at h in absurd cc
  | inr other ↦ rw other.0 (none_ends blocks ino (rw other.0 at h))
]

short_node : (e : (ℕ × ℕ) × List ℕ) → is_block_node e ≡ true → length e.1 ≤ 4096
short_node e h = grind (arith, nat_tests)

-- no block is longer than 4,096 bytes
short_block : (blocks : Blocks) (ino block : ℕ) → list_all is_block_node blocks ≡ true → length (block_at blocks ino block) ≤ 4096
short_block [] ino block h = omega arith
short_block (e ∷ blocks) ino block h =
    let p = and_parts (is_block_node e) (list_all is_block_node blocks) h in
    by (short_node e p.0) (short_block blocks ino block p.1) (is_at (pair_cmp (ino, block)) e.0)
  where
    by : length e.1 ≤ 4096 → length (block_at blocks ino block) ≤ 4096 → (b : Bool) → length (unwrap_or (cond b (Some e.1) (lookup (is_at (pair_cmp (ino, block))) blocks)) []) ≤ 4096
    by short rest true = short
    by short rest false = rest

-- the first block, and those behind it
block_here : (e : (ℕ × ℕ) × List ℕ) (blocks : Blocks) (ino block : ℕ) → block_at (e ∷ blocks) ino block ≡ (cond ((e.0.0 == ino) && (e.0.1 == block)) e.1 (block_at blocks ino block))
block_here e blocks ino block = rw (at_key ino block e.0) (by ((e.0.0 == ino) && (e.0.1 == block)))
  where
    by : (b : Bool) → unwrap_or (cond b (Some e.1) (lookup (is_at (pair_cmp (ino, block))) blocks)) [] ≡ cond b e.1 (block_at blocks ino block)
    by true = refl
    by false = refl

-- the last block ends last
pub last_ends : (blocks : Blocks) (ino m : ℕ) → ascends pair_cmp (keys_of blocks) ≡ true → list_all is_block_node blocks ≡ true → last_block_of blocks ino ≡ Some m → blocks_end blocks ino ≡ 4096 * m + length (block_at blocks ino m)
last_ends [] ino m a n l = absurd cc
last_ends (e ∷ blocks) ino m a n l =
    let p = and_parts (is_block_node e) (list_all is_block_node blocks) n in
    let rest = λ (l : last_block_of blocks ino ≡ Some m). last_ends blocks ino m (behind e.0 blocks a) p.1 l in
    elim (eqb_tells e.0.0 ino) [
      | inl same ↦ rw (block_here e blocks ino m, same.0) (by (short_node e p.0) same.1 rest (rw same.0 at l) (last_block_of blocks ino) refl)
      | inr other ↦ rw (block_here e blocks ino m, other.0) (rest (rw other.0 at l))
    ]
  where
    behind : (k : ℕ × ℕ) (blocks : Blocks) → ascends pair_cmp (k ∷ keys_of blocks) ≡ true → ascends pair_cmp (keys_of blocks) ≡ true
    behind k [] h = refl
    behind k (e ∷ blocks) h = (and_parts (is_lt (pair_cmp k e.0)) (ascends pair_cmp (e.0 ∷ keys_of blocks)) h).1

    by : length e.1 ≤ 4096 → e.0.0 ≡ ino → (last_block_of blocks ino ≡ Some m → blocks_end blocks ino ≡ 4096 * m + length (block_at blocks ino m)) → Some (max e.0.1 (unwrap_or (last_block_of blocks ino) 0)) ≡ Some m → (o : Option ℕ) → last_block_of blocks ino ≡ o
        → max (4096 * e.0.1 + length e.1) (blocks_end blocks ino) ≡ 4096 * m + length (cond (e.0.1 == m) e.1 (block_at blocks ino m))
    by short same more is None none =
        let none_is : unwrap_or (last_block_of blocks ino) 0 ≡ 0 = ap (λ o. unwrap_or o 0) none in
        let max_is : max e.0.1 (unwrap_or (last_block_of blocks ino) 0) ≡ m = cc in
        let at : (e.0.1 == m) ≡ true = grind (arith, nat_tests) in
        let zero = none_ends blocks ino none in
        rw at (omega (arith, zero, none_is, max_is))
    by short same more is (Some last) some =
        let last_is : unwrap_or (last_block_of blocks ino) 0 ≡ last = ap (λ o. unwrap_or o 0) some in
        let max_is : max e.0.1 (unwrap_or (last_block_of blocks ino) 0) ≡ m = cc in
        let less = past_first e.0 blocks ino last a same some in
        let at : (e.0.1 == m) ≡ false = grind (arith, nat_tests) in
        let m_is : last ≡ m = omega (arith, last_is, max_is, less) in
        let rest = more (some ∙ ap (λ n. Some n) m_is) in
        rw at (omega (arith, rest, less, short, m_is))

-- so where a read of it found all its bytes, these tell the end
pub end_found : (tree : Tree) (ino : ℕ) (last : Option ℕ) (stored : ℕ) → IsProper tree → IsLastBlock tree.blocks ino last stored → option_map_or (λ block. 4096 * block + stored) last 0 ≡ blocks_end tree.blocks ino
end_found tree ino None stored proper found = sym (none_ends tree.blocks ino found.last_is)
end_found tree ino (Some last) stored proper found =
    let short = short_block tree.blocks ino last proper.block_nodes in
    let all = found.stored_is in
    let ends = last_ends tree.blocks ino last proper.blocks_ascend proper.block_nodes found.last_is in
    omega (arith, short, all, ends)

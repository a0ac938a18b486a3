-- Pages and inodes that are written are nodes.
use Rattle.std.proofs.Common.{◌≡◌, ℕ, zero, suc, ◌+◌, ◌-◌, ◌*◌, ◌<◌, ◌≤◌, ◌⊎◌, inl, inr, true, not, max, min, List, [], ◌∷◌, ◌++◌, length, length-append, length-take, length-drop, take, drop, Option, Some, None, refl, sym, ap, ◌∙◌, arith}
use Rattle.std.specs.Prelude.{◌==◌, ◌&&◌, ◌||◌, nat_lt, nat_le, replicate, unwrap_or}
use Rattle.std.specs.List.{list_all}
use Rattle.std.specs.Map.{lookup}
use Rattle.std.specs.BTreeMap.{is_at}
use Rattle.std.proofs.lemmas.Bool.{and_parts, and_from}
use Rattle.std.proofs.lemmas.Bool.Decides.{nat_tests}
use Rattle.std.proofs.lemmas.List.{length-replicate}
use Rattle.std.proofs.lemmas.List.Folds.{list_all-append}
use Rattle.fs_model.specs.declared.inode.Inode.{Inode}
use Rattle.fs_model.specs.Files.{Blocks, pair_cmp, block_at, blocks_end, overlaid, page_written}
use Rattle.fs_model.specs.Making.{touched}
use Rattle.fs_model.specs.Path.{is_empty}
use Rattle.fs_model.specs.Proper.{is_block_node, is_inode_node, are_bytes, are_words, are_long_words, has_data}
use Rattle.buffered_files.proofs.Ends.{ends_cons, stored_short}
use Rattle.fs_laws.specs.Maps.{all_at, apart, key_cases}
use Rattle.fs_laws.specs.Orders.{pairs}

lt_from : (a b : ℕ) → a < b → nat_lt a b ≡ true
lt_from a b h = grind (arith, nat_tests)

le_from : (a b : ℕ) → a ≤ b → nat_le a b ≡ true
le_from a b h = grind (arith, nat_tests)

all_take : (n : ℕ) (xs : List ℕ) → are_bytes xs ≡ true → are_bytes (take n xs) ≡ true
all_take zero xs h = refl
all_take (suc n) [] h = refl
all_take (suc n) (x ∷ xs) h = let parts = and_parts (nat_lt x 256) (are_bytes xs) h in and_from (nat_lt x 256) (are_bytes (take n xs)) parts.0 (all_take n xs parts.1)

all_drop : (n : ℕ) (xs : List ℕ) → are_bytes xs ≡ true → are_bytes (drop n xs) ≡ true
all_drop zero xs h = h
all_drop (suc n) [] h = refl
all_drop (suc n) (x ∷ xs) h = all_drop n xs (and_parts (nat_lt x 256) (are_bytes xs) h).1

all_copies : (n byte : ℕ) → nat_lt byte 256 ≡ true → are_bytes (replicate n byte) ≡ true
all_copies zero byte h = refl
all_copies (suc n) byte h = and_from (nat_lt byte 256) (are_bytes (replicate n byte)) h (all_copies n byte h)

all_joined : (xs ys : List ℕ) → are_bytes xs ≡ true → are_bytes ys ≡ true → are_bytes (xs ++ ys) ≡ true
all_joined xs ys a b = list_all-append (λ b. nat_lt b 256) xs ys ∙ and_from (are_bytes xs) (are_bytes ys) a b

overlaid_bytes : (old : List ℕ) (from to byte : ℕ) → are_bytes old ≡ true → byte < 256 → are_bytes (overlaid old from to byte) ≡ true
overlaid_bytes old from to byte all below =
    let head = all_take from (old ++ replicate (from - length old) 0) (all_joined old (replicate (from - length old) 0) all (all_copies (from - length old) 0 refl)) in
    let middle = all_copies (to - from) byte (lt_from byte 256 below) in
    let rest = all_drop to old all in
    all_joined (take from (old ++ replicate (from - length old) 0) ++ replicate (to - from) byte) (drop to old) (all_joined (take from (old ++ replicate (from - length old) 0)) (replicate (to - from) byte) head middle) rest

overlaid_length : (old : List ℕ) (from to byte : ℕ) → from ≤ to → length (overlaid old from to byte) ≡ max (length old) to
overlaid_length old from to byte h = simp (length-append, length-take, length-drop, length-replicate) (omega (arith, h))

some_bytes : (bytes : List ℕ) → 0 < length bytes → not (is_empty bytes) ≡ true
some_bytes [] h = absurd (omega (arith, h))
some_bytes (b ∷ bytes) h = refl

block_from : (k : ℕ × ℕ) (bytes : List ℕ) → k.0 < 4294967296 → k.1 < 536870912 → 0 < length bytes → length bytes ≤ 4096 → are_bytes bytes ≡ true → is_block_node (k, bytes) ≡ true
block_from k bytes ino block some few all =
    and_from (nat_lt k.0 4294967296 && nat_lt k.1 536870912 && not (is_empty bytes) && nat_le (length bytes) 4096) (are_bytes bytes)
    (and_from (nat_lt k.0 4294967296 && nat_lt k.1 536870912 && not (is_empty bytes)) (nat_le (length bytes) 4096)
    (and_from (nat_lt k.0 4294967296 && nat_lt k.1 536870912) (not (is_empty bytes))
    (and_from (nat_lt k.0 4294967296) (nat_lt k.1 536870912) (lt_from k.0 4294967296 ino) (lt_from k.1 536870912 block))
    (some_bytes bytes some))
    (le_from (length bytes) 4096 few))
    all

-- the bytes of a block that may be missing
stored_bytes : (blocks : Blocks) (ino block : ℕ) → list_all is_block_node blocks ≡ true → are_bytes (block_at blocks ino block) ≡ true
stored_bytes blocks ino block nodes = by (lookup (is_at (pair_cmp (ino, block))) blocks) refl
  where
    by : (o : Option (List ℕ)) → lookup (is_at (pair_cmp (ino, block))) blocks ≡ o → are_bytes (unwrap_or o []) ≡ true
    by None h = refl
    by (Some bytes) h =
        (and_parts (nat_lt ino 4294967296 && nat_lt block 536870912 && not (is_empty bytes) && nat_le (length bytes) 4096) (are_bytes bytes)
        (all_at pair_cmp pairs is_block_node blocks (ino, block) bytes nodes h)).1

-- a page that is written is a block
pub written_block : (blocks : Blocks) (ino place n byte page : ℕ) → list_all is_block_node blocks ≡ true → ino < 4294967296 → byte < 256 → 0 < n → place + n ≤ 2199023255552 → 4096 * page < place + n → place < 4096 * (page + 1)
    → is_block_node ((ino, page), page_written blocks ino place n byte page) ≡ true
written_block blocks ino place n byte page nodes low below some range starts ends =
    let old = block_at blocks ino page in
    let from = place - 4096 * page in
    let to = min (place + n - 4096 * page) 4096 in
    let short = stored_short blocks ino page nodes in
    let len = overlaid_length old from to byte (omega (arith, starts, ends)) in
    block_from (ino, page) (overlaid old from to byte) low (omega (arith, starts, range)) (omega (arith, len, starts)) (omega (arith, len, short)) (overlaid_bytes old from to byte (stored_bytes blocks ino page nodes) below)

stored_ends : (blocks : Blocks) (ino block m : ℕ) → blocks_end blocks ino ≤ m → 4096 * block ≤ m → 4096 * block + length (block_at blocks ino block) ≤ m
stored_ends [] ino block m rest here = omega (arith, here)
stored_ends (entry ∷ blocks) ino block m rest here =
    let split = ends_cons entry.0 entry.1 blocks ino m rest in
    by split (stored_ends blocks ino block m split.0 here) (key_cases pair_cmp pairs (ino, block) entry.0)
  where
    by : (blocks_end blocks ino ≤ m) × (entry.0.0 ≡ ino → 4096 * entry.0.1 + length entry.1 ≤ m) → 4096 * block + length (block_at blocks ino block) ≤ m → ((ino, block) ≡ entry.0) ⊎ ((ino, block) ≡ entry.0 → ⊥)
        → 4096 * block + length (block_at (entry ∷ blocks) ino block) ≤ m
    by split more (inl same) =
        let ends = split.1 (ap (λ k. k.0) (sym same)) in
        let number : block ≡ entry.0.1 = ap (λ k. k.1) same in
        let found : block_at (entry ∷ blocks) ino block ≡ entry.1 = rw (ap (λ k. pair_cmp k entry.0) same ∙ pairs.same entry.0) refl in
        let n = ap (λ bytes. length bytes) found in
        omega (arith, ends, number, n)
    by split more (inr other) =
        let found : block_at (entry ∷ blocks) ino block ≡ block_at blocks ino block = rw (apart pair_cmp pairs (ino, block) entry.0 other) refl in
        let n = ap (λ bytes. length bytes) found in
        omega (arith, more, n)

-- and ends within the file
pub written_ends : (blocks : Blocks) (ino place n byte page size : ℕ) → blocks_end blocks ino ≤ size → place + n ≤ size → 4096 * page < place + n → place < 4096 * (page + 1) → 4096 * page + length (page_written blocks ino place n byte page) ≤ size
written_ends blocks ino place n byte page size rest all starts ends =
    let old = block_at blocks ino page in
    let from = place - 4096 * page in
    let to = min (place + n - 4096 * page) 4096 in
    let len = overlaid_length old from to byte (omega (arith, starts, ends)) in
    let before = stored_ends blocks ino page size rest (omega (arith, starts, all)) in
    omega (arith, len, before, all, starts)

-- and is no shorter than the block was
pub written_over : (blocks : Blocks) (ino place n byte page : ℕ) → 4096 * page < place + n → place < 4096 * (page + 1) → length (block_at blocks ino page) ≤ length (page_written blocks ino place n byte page)
written_over blocks ino place n byte page starts ends =
    let len = overlaid_length (block_at blocks ino page) (place - 4096 * page) (min (place + n - 4096 * page) 4096) byte (omega (arith, starts, ends)) in
    omega (arith, len)

-- an inode of another size that was changed is a node
pub node_touched : (ino now size : ℕ) (inode : Inode) → is_inode_node (ino, inode) ≡ true → now < 18446744073709551616 → size < 18446744073709551616 → is_inode_node (ino, touched now (record inode { size = size })) ≡ true
node_touched ino now size inode node low small = by (lt_from now 18446744073709551616 low) (lt_from size 18446744073709551616 small)
  where
    by : nat_lt now 18446744073709551616 ≡ true → nat_lt size 18446744073709551616 ≡ true → is_inode_node (ino, touched now (record inode { size = size })) ≡ true
    by a b =
        let p5 = and_parts (not (ino == 0) && nat_lt inode.mode 4096 && are_words (ino ∷ inode.uid ∷ inode.gid ∷ inode.flags ∷ inode.nlink ∷ []) && are_long_words (inode.size ∷ inode.atime ∷ inode.ctime ∷ inode.mtime ∷ []) && are_bytes inode.extra && nat_le (length inode.extra) 4096) (is_empty inode.extra || has_data inode.kind) node in
        let p4 = and_parts (not (ino == 0) && nat_lt inode.mode 4096 && are_words (ino ∷ inode.uid ∷ inode.gid ∷ inode.flags ∷ inode.nlink ∷ []) && are_long_words (inode.size ∷ inode.atime ∷ inode.ctime ∷ inode.mtime ∷ []) && are_bytes inode.extra) (nat_le (length inode.extra) 4096) p5.0 in
        let p3 = and_parts (not (ino == 0) && nat_lt inode.mode 4096 && are_words (ino ∷ inode.uid ∷ inode.gid ∷ inode.flags ∷ inode.nlink ∷ []) && are_long_words (inode.size ∷ inode.atime ∷ inode.ctime ∷ inode.mtime ∷ [])) (are_bytes inode.extra) p4.0 in
        let p2 = and_parts (not (ino == 0) && nat_lt inode.mode 4096 && are_words (ino ∷ inode.uid ∷ inode.gid ∷ inode.flags ∷ inode.nlink ∷ [])) (are_long_words (inode.size ∷ inode.atime ∷ inode.ctime ∷ inode.mtime ∷ [])) p3.0 in
        let times = and_parts (nat_lt inode.size 18446744073709551616) (are_long_words (inode.atime ∷ inode.ctime ∷ inode.mtime ∷ [])) p2.1 in
        let atime = and_parts (nat_lt inode.atime 18446744073709551616) (are_long_words (inode.ctime ∷ inode.mtime ∷ [])) times.1 in
        rw (p2.0, b, atime.0, a, p3.1, p4.1, p5.1) refl

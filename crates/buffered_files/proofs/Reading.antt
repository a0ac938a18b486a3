-- What is read of the files that callers see.
use Rattle.std.proofs.Common.{◌≡◌, ℕ, zero, suc, ◌+◌, ◌-◌, ◌/◌, ◌%◌, ◌<◌, ◌≤◌, List, [], ◌∷◌, ◌++◌, length, take, drop, get_or, map, min, max, Option, Some, None, refl, sym, ap, ◌∙◌, arith, length-append, append-nil, append_assoc, take_all, inl, inr, true}
use Rattle.std.specs.Prelude.{◌⊎◌, false, is_some, replicate, Result, Ok, Err, IfOk, OnOk, unwrap_or}
use Rattle.std.specs.Option.{option_map_or}
use Rattle.std.specs.List.{list_all, range_with_len, IsDistinct}
use Rattle.std.specs.Map.{lookup, keys_of}
use Rattle.std.specs.BTreeMap.{is_at}
use Rattle.std.specs.Ordering.{nat_cmp}
use Rattle.std.proofs.lemmas.Bool.{cases_lt}
use Rattle.std.proofs.lemmas.List.{get_or_past}
use Rattle.std.proofs.Math.Seq.{drop-cons}
use Rattle.std.proofs.lemmas.List.FromFn.{length-map-range_with_len}
use Rattle.fs_model.specs.declared.inode.Inode.{Inode}
use Rattle.fs_model.specs.Backing.{BackingState, Outlook, Goes, Reads}
use Rattle.fs_model.specs.Files.{Tree, Blocks, inode_at, pair_cmp, block_at, blocks_end, byte_at, bytes_from, piece_of, size_of}
use Rattle.fs_model.specs.Proper.{is_block_node}
use Rattle.page_cache.specs.declared.dirty_page.DirtyPage.{DirtyPage}
use Rattle.page_cache.specs.Pages.{is_page, bytes_at, clean_at, dirty_at}
use Rattle.buffered_files.specs.declared.kept.Kept.{Kept}
use Rattle.buffered_files.specs.Calls.{SureGoes}
use Rattle.buffered_files.specs.Present.{present, filled, IsKept, IsSameButClean, FitsClean, FitsOver}
use Rattle.buffered_files.proofs.Clean.{all_found, Same-then}
use Rattle.buffered_files.proofs.Covers.{present_inode, found_covered, covered_nodes, covered_ends, other_ends}
use Rattle.buffered_files.proofs.Ends.{stored_short, low_block}
use Rattle.buffered_files.specs.CallLaws.{Goes-none, Goes-then, Sure-none, Sure-then}
use Rattle.fs_laws.specs.Maps.{all_at}
use Rattle.fs_laws.specs.Orders.{pairs}

-- a kept inode is seen
pub seen_kept : (tree : Tree) (kept : Kept) (ino : ℕ) (inode : Inode) → IsKept tree kept → lookup (is_at (nat_cmp ino)) kept.inodes ≡ Some inode → inode_at (present tree kept).tree ino ≡ Some inode
seen_kept tree kept ino inode is found = present_inode tree kept ino is ∙ rw found refl

-- and where none is kept, the tree's
pub seen_below : (tree : Tree) (kept : Kept) (ino : ℕ) → IsKept tree kept → lookup (is_at (nat_cmp ino)) kept.inodes ≡ None → inode_at (present tree kept).tree ino ≡ inode_at tree ino
seen_below tree kept ino is none = present_inode tree kept ino is ∙ rw none refl

-- the size of a file whose inode is kept
pub kept_size : (tree : Tree) (kept : Kept) (ino : ℕ) (inode found : Inode) → IsKept tree kept → inode_at (present tree kept).tree ino ≡ Some inode → lookup (is_at (nat_cmp ino)) kept.inodes ≡ Some found → inode.size ≡ size_of (present tree kept).tree ino inode
kept_size tree kept ino inode found is seen there =
    let both : Some found ≡ Some inode = sym (seen_kept tree kept ino found is there) ∙ seen in
    let same : found ≡ inode = cc both in
    let ends = covered_ends kept.inodes kept.pages.dirty tree.blocks ino inode (there ∙ ap Some same) is.pages (is.ends ino inode (there ∙ ap Some same)) in
    omega (arith, ends)

-- and of one whose inode isn't
pub other_size : (tree : Tree) (kept : Kept) (ino end n : ℕ) (inode : Inode) → IsKept tree kept → lookup (is_at (nat_cmp ino)) kept.inodes ≡ None → end ≡ blocks_end tree.blocks ino → n ≡ max inode.size end → n ≡ size_of (present tree kept).tree ino inode
other_size tree kept ino end n inode is none e m = m ∙ ap (λ k. max inode.size k) (e ∙ sym (other_ends kept.inodes kept.pages.dirty tree.blocks ino none is.pages))

-- the blocks that callers see
abbrev pub seen : Tree → Kept → Blocks
seen tree kept = (present tree kept).tree.blocks

pub seen_nodes : (tree : Tree) (kept : Kept) → IsKept tree kept → list_all is_block_node (seen tree kept) ≡ true
seen_nodes tree kept is = covered_nodes kept.inodes kept.pages.dirty tree.blocks is.pages is.proper.block_nodes

-- a block that is seen has at most 4,096 bytes
pub seen_short : (tree : Tree) (kept : Kept) (ino block : ℕ) → IsKept tree kept → length (block_at (seen tree kept) ino block) ≤ 4096
seen_short tree kept ino block is = stored_short (seen tree kept) ino block (seen_nodes tree kept is)

-- and a block past 2^29 is empty
pub seen_high : (tree : Tree) (kept : Kept) (ino block : ℕ) → IsKept tree kept → 536870912 ≤ block → block_at (seen tree kept) ino block ≡ []
seen_high tree kept ino block is high = by (lookup (is_at (pair_cmp (ino, block))) (seen tree kept)) refl
  where
    by : (o : Option (List ℕ)) → lookup (is_at (pair_cmp (ino, block))) (seen tree kept) ≡ o → unwrap_or o [] ≡ []
    by None h = refl
    by (Some bytes) h =
        let low = low_block (ino, block) bytes (all_at pair_cmp pairs is_block_node (seen tree kept) (ino, block) bytes (seen_nodes tree kept is) h) in
        absurd (omega (arith, low, high))

-- a dirty page is seen
pub seen_page : (tree : Tree) (kept : Kept) (ino block : ℕ) (page : DirtyPage) → IsDistinct is_page (keys_of kept.pages.dirty) → dirty_at kept.pages ino block ≡ Some page → block_at (seen tree kept) ino block ≡ page.bytes
seen_page tree kept ino block page once found =
    let all = found_covered kept.pages.dirty tree.blocks (ino, block) once in
    let is : lookup (is_at (pair_cmp (ino, block))) (seen tree kept) ≡ Some page.bytes = rw found at all in
    ap (λ o. unwrap_or o []) is

-- and where none is dirty, the tree's block
pub seen_block : (tree : Tree) (kept : Kept) (ino block : ℕ) → IsDistinct is_page (keys_of kept.pages.dirty) → dirty_at kept.pages ino block ≡ None → block_at (seen tree kept) ino block ≡ block_at tree.blocks ino block
seen_block tree kept ino block once none =
    let all = found_covered kept.pages.dirty tree.blocks (ino, block) once in
    let is : lookup (is_at (pair_cmp (ino, block))) (seen tree kept) ≡ lookup (is_at (pair_cmp (ino, block))) tree.blocks = rw none at all in
    ap (λ o. unwrap_or o []) is

-- the block that is seen is no shorter than the tree's
pub seen_over : (tree : Tree) (kept : Kept) (ino block : ℕ) → IsKept tree kept → IsDistinct is_page (keys_of kept.pages.dirty) → length (block_at tree.blocks ino block) ≤ length (block_at (seen tree kept) ino block)
seen_over tree kept ino block is once = by (dirty_at kept.pages ino block) refl
  where
    by : (o : Option DirtyPage) → dirty_at kept.pages ino block ≡ o → length (block_at tree.blocks ino block) ≤ length (block_at (seen tree kept) ino block)
    by None h = let n = ap (λ bytes. length bytes) (seen_block tree kept ino block once h) in omega (arith, n)
    by (Some page) h =
        let n = ap (λ bytes. length bytes) (seen_page tree kept ino block page once h) in
        let over : length (block_at tree.blocks ino block) ≤ length page.bytes = all_found (FitsOver tree.blocks) (ino, block) page kept.pages.dirty is.covers h in
        omega (arith, n, over)

-- what a backing's block tells of the one that is seen
pub block_stored : {E : Type 0} (r : Result ℕ E) (below above new : List ℕ) → above ≡ below → length above ≤ 4096 → IfOk r (λ stored. (stored ≡ min (length below) 4096) × (new ≡ take 4096 below ++ replicate (4096 - stored) 0)) → IfOk r (λ stored. stored ≡ length above)
block_stored (Err e) below above new same short told = tt
block_stored (Ok stored) below above new same short told =
    let n = ap (λ bytes. length bytes) same in
    let s = told.0 in
    omega (arith, n, s, short)

pub block_bytes : {E : Type 0} (r : Result ℕ E) (below above new : List ℕ) → above ≡ below → length above ≤ 4096 → IfOk r (λ stored. (stored ≡ min (length below) 4096) × (new ≡ take 4096 below ++ replicate (4096 - stored) 0)) → OnOk r (new ≡ filled above 4096)
block_bytes (Err e) below above new same short told = tt
block_bytes (Ok stored) below above new same short told =
    let n = ap (λ bytes. length bytes) same in
    let s = told.0 in
    let k : stored ≡ length above = omega (arith, n, s, short) in
    told.1 ∙ ap (λ m. take 4096 below ++ replicate (4096 - m) 0) k ∙ ap (λ bytes. take 4096 bytes ++ replicate (4096 - length above) 0) (sym same)
    ∙ ap (λ bytes. bytes ++ replicate (4096 - length above) 0) (take_all 4096 above short)

-- pieces of lists
pub take_piece : (xs : List ℕ) (from n : ℕ) → from + n ≤ length xs → take n (drop from xs) ≡ piece_of xs from n
take_piece xs from zero h = refl
take_piece xs from (suc n) h =
    let rest = drop-cons xs from 0 (omega (arith, h)) in
    let e : suc from ≡ from + 1 = omega arith in
    rw (rest, e) (ap (λ z. get_or xs from 0 ∷ z) (take_piece xs (from + 1) n (omega (arith, h))))

pub map_range-append : (f : ℕ → ℕ) (a n m : ℕ) → map f (range_with_len a (n + m)) ≡ map f (range_with_len a n) ++ map f (range_with_len (a + n) m)
map_range-append f a zero m = let e : zero + m ≡ m = omega arith in let d : a + zero ≡ a = omega arith in rw (e, d) refl
map_range-append f a (suc n) m =
    let e : suc n + m ≡ suc (n + m) = omega arith in
    let d : a + suc n ≡ a + 1 + n = omega arith in
    rw (e, d) (ap (λ xs. f a ∷ xs) (map_range-append f (a + 1) n m))

pub map_range-same : (f g : ℕ → ℕ) (a b n : ℕ) → ((k : ℕ) → k < n → f (a + k) ≡ g (b + k)) → map f (range_with_len a n) ≡ map g (range_with_len b n)
map_range-same f g a b zero h = refl
map_range-same f g a b (suc n) h =
    let ea : a + 0 ≡ a = omega arith in
    let eb : b + 0 ≡ b = omega arith in
    let first : f a ≡ g b = ap f (sym ea) ∙ h 0 (omega arith) ∙ ap g eb in
    let more : (k : ℕ) → k < n → f (a + 1 + k) ≡ g (b + 1 + k) = λ k below.
    let sa : a + 1 + k ≡ a + suc k = omega arith in let sb : b + 1 + k ≡ b + suc k = omega arith in ap f sa ∙ h (suc k) (omega arith) ∙ ap g (sym sb) in
    rw (first, map_range-same f g (a + 1) (b + 1) n more) refl

zeros_past : (xs : List ℕ) (from n : ℕ) → length xs ≤ from → replicate n 0 ≡ piece_of xs from n
zeros_past xs from zero h = refl
zeros_past xs from (suc n) h = rw (get_or_past xs from 0 h) (ap (λ zs. 0 ∷ zs) (zeros_past xs (from + 1) n (omega (arith, h))))

-- a part of a list, and zeros past its end
pub piece_is : (xs : List ℕ) (from count : ℕ) → take (min (from + count) (length xs) - min from (length xs)) (drop (min from (length xs)) xs) ++ replicate (count - (min (from + count) (length xs) - min from (length xs))) 0 ≡ piece_of xs from count
piece_is xs from count = elim (cases_lt from (length xs)) [
  | inl inside ↦
      let n = min (from + count) (length xs) - from in
      let first : min from (length xs) ≡ from = omega (arith, inside) in
      let within : from + n ≤ length xs = omega (arith, inside) in
      let all : n + (count - n) ≡ count = omega (arith, inside) in
      rw first (ap (λ ys. ys ++ replicate (count - n) 0) (take_piece xs from n within) ∙ ap (λ zs. piece_of xs from n ++ zs) (rest n (count - n) (ends (cases_lt (length xs) (from + count)) inside)) ∙ sym (map_range-append (λ k. get_or xs k 0) from n (count - n)) ∙ ap (piece_of xs from) all)
  | inr past ↦
      let none : min (from + count) (length xs) - min from (length xs) ≡ 0 = omega (arith, past) in
      let all : count - 0 ≡ count = omega arith in
      rw (none, all) (zeros_past xs from count past)
]
  where
    ends : (length xs < from + count) ⊎ (from + count ≤ length xs) → from < length xs → (count - (min (from + count) (length xs) - from) ≡ 0) ⊎ (length xs ≤ from + (min (from + count) (length xs) - from))
    ends (inl long) inside = inr (omega (arith, long, inside))
    ends (inr short) inside = inl (omega (arith, short, inside))

    rest : (n m : ℕ) → (m ≡ 0) ⊎ (length xs ≤ from + n) → replicate m 0 ≡ piece_of xs (from + n) m
    rest n m (inl none) = rw none refl
    rest n m (inr past) = zeros_past xs (from + n) m past

-- that is what is appended
pub piece_pushed : (out mid bytes new : List ℕ) (from count start end : ℕ) → mid ≡ out ++ take (end - start) (drop start bytes) → start ≡ min from (length bytes) → end ≡ min (from + count) (length bytes)
    → new ≡ mid ++ replicate (count - (end - start)) 0 → new ≡ out ++ piece_of bytes from count
piece_pushed out mid bytes new from count start end pushed first last is =
    let more = count - (end - start) in
    let parts : ℕ → ℕ → List ℕ = λ s e. out ++ (take (e - s) (drop s bytes) ++ replicate (count - (e - s)) 0) in
    is ∙ ap (λ xs. xs ++ replicate more 0) pushed ∙ append_assoc out (take (end - start) (drop start bytes)) (replicate more 0)
    ∙ ap (λ s. parts s end) first ∙ ap (λ e. parts (min from (length bytes)) e) last ∙ ap (λ xs. out ++ xs) (piece_is bytes from count)

-- a part of a page is what is read there
pub page_part : (blocks : Blocks) (ino place count : ℕ) → place % 4096 + count ≤ 4096 → piece_of (block_at blocks ino (place / 4096)) (place % 4096) count ≡ bytes_from blocks ino place count
page_part blocks ino place count fits =
    let block = block_at blocks ino (place / 4096) in
    sym (map_range-same (byte_at blocks ino) (λ k. get_or block k 0) place (place % 4096) count
    (λ k below.
    let number : (place + k) / 4096 ≡ place / 4096 = omega (arith, below, fits) in
    let at : (place + k) % 4096 ≡ place % 4096 + k = omega (arith, below, fits) in
    rw (number, at) refl))

-- what is kept of a page is what is seen
pub seen_at : (tree : Tree) (kept : Kept) (ino block : ℕ) (bytes : List ℕ) → IsKept tree kept → IsDistinct is_page (keys_of kept.pages.dirty) → bytes_at kept.pages ino block ≡ Some bytes → block_at (seen tree kept) ino block ≡ bytes
seen_at tree kept ino block bytes is once found = by (dirty_at kept.pages ino block) refl found
  where
    by : (o : Option DirtyPage) → dirty_at kept.pages ino block ≡ o → option_map_or (λ page. Some page.bytes) o (clean_at kept.pages ino block) ≡ Some bytes → block_at (seen tree kept) ino block ≡ bytes
    by (Some page) there h =
        let one : page.bytes ≡ bytes = cc h in
        seen_page tree kept ino block page once there ∙ one
    by None there h = seen_block tree kept ino block once there ∙ sym (all_found (FitsClean tree.blocks) (ino, block) bytes kept.pages.clean is.clean h)

-- and where none is kept, the tree's block
pub seen_stored : (tree : Tree) (kept : Kept) (ino block : ℕ) → IsDistinct is_page (keys_of kept.pages.dirty) → bytes_at kept.pages ino block ≡ None → block_at (seen tree kept) ino block ≡ block_at tree.blocks ino block
seen_stored tree kept ino block once found = by (dirty_at kept.pages ino block) refl found
  where
    by : (o : Option DirtyPage) → dirty_at kept.pages ino block ≡ o → option_map_or (λ page. Some page.bytes) o (clean_at kept.pages ino block) ≡ None → block_at (seen tree kept) ino block ≡ block_at tree.blocks ino block
    by (Some page) there h = absurd cc
    by None there h = seen_block tree kept ino block once there

-- a part of a page that is kept
pub kept_part : (tree : Tree) (kept : Kept) (ino place count : ℕ) (out : List ℕ) → IsKept tree kept → IsDistinct is_page (keys_of kept.pages.dirty) → place % 4096 + count ≤ 4096 → is_some (bytes_at kept.pages ino (place / 4096)) ≡ true
    → out ++ option_map_or (λ bytes. piece_of bytes (place % 4096) count) (bytes_at kept.pages ino (place / 4096)) [] ≡ out ++ bytes_from (seen tree kept) ino place count
kept_part tree kept ino place count out is once fits some = by (bytes_at kept.pages ino (place / 4096)) refl some
  where
    by : (o : Option (List ℕ)) → bytes_at kept.pages ino (place / 4096) ≡ o → is_some o ≡ true → out ++ option_map_or (λ bytes. piece_of bytes (place % 4096) count) o [] ≡ out ++ bytes_from (seen tree kept) ino place count
    by None h t = absurd cc
    by (Some bytes) h t =
        ap (λ (block : List ℕ). out ++ piece_of block (place % 4096) count) (sym (seen_at tree kept ino (place / 4096) bytes is once h)) ∙ ap (λ part. out ++ part) (page_part (seen tree kept) ino place count fits)

-- and of one that isn't
pub stored_part : (tree : Tree) (kept : Kept) (ino place count : ℕ) (out mid new : List ℕ) → IsDistinct is_page (keys_of kept.pages.dirty) → place % 4096 + count ≤ 4096 → is_some (bytes_at kept.pages ino (place / 4096)) ≡ false
    → mid ≡ out ++ option_map_or (λ bytes. piece_of bytes (place % 4096) count) (bytes_at kept.pages ino (place / 4096)) [] → new ≡ mid ++ piece_of (block_at tree.blocks ino (place / 4096)) (place % 4096) count
    → new ≡ out ++ bytes_from (seen tree kept) ino place count
stored_part tree kept ino place count out mid new once fits none first second =
    let missing = absent (bytes_at kept.pages ino (place / 4096)) none in
    let e : mid ≡ out = first ∙ ap (λ o. out ++ option_map_or (λ (bytes : List ℕ). piece_of bytes (place % 4096) count) o []) missing ∙ append-nil out in
    second ∙ ap (λ xs. xs ++ piece_of (block_at tree.blocks ino (place / 4096)) (place % 4096) count) e
    ∙ ap (λ (block : List ℕ). out ++ piece_of block (place % 4096) count) (sym (seen_stored tree kept ino (place / 4096) once missing)) ∙ ap (λ part. out ++ part) (page_part (seen tree kept) ino place count fits)
  where
    absent : (o : Option (List ℕ)) → is_some o ≡ false → o ≡ None
    absent None h = refl
    absent (Some bytes) h = absurd cc

pub stored_part_of : {E : Type 0} (r : Result Unit E) (tree : Tree) (kept : Kept) (ino place count : ℕ) (out mid new : List ℕ) → IsDistinct is_page (keys_of kept.pages.dirty) → place % 4096 + count ≤ 4096 → is_some (bytes_at kept.pages ino (place / 4096)) ≡ false
    → mid ≡ out ++ option_map_or (λ bytes. piece_of bytes (place % 4096) count) (bytes_at kept.pages ino (place / 4096)) [] → OnOk r (new ≡ mid ++ piece_of (block_at tree.blocks ino (place / 4096)) (place % 4096) count)
    → OnOk r (new ≡ out ++ bytes_from (seen tree kept) ino place count)
stored_part_of (Err e) tree kept ino place count out mid new once fits none first second = tt
stored_part_of (Ok done) tree kept ino place count out mid new once fits none first second = stored_part tree kept ino place count out mid new once fits none first second

-- past the last block that may be
pub high_part : (tree : Tree) (kept : Kept) (ino place count : ℕ) (out : List ℕ) → IsKept tree kept → place % 4096 + count ≤ 4096 → 536870912 ≤ place / 4096 → out ++ piece_of [] (place % 4096) count ≡ out ++ bytes_from (seen tree kept) ino place count
high_part tree kept ino place count out is fits high =
    ap (λ (block : List ℕ). out ++ piece_of block (place % 4096) count) (sym (seen_high tree kept ino (place / 4096) is high)) ∙ ap (λ part. out ++ part) (page_part (seen tree kept) ino place count fits)

-- two calls that read
pub Reads-then : (a b c : BackingState) → Reads a b → Reads b c → Reads a c
Reads-then a b c first second =
    let again : BackingState → BackingState = λ s. record s { mode = c.mode; faults = c.faults } in
    second ∙ ap again first

pub Reads-tree : (a b : BackingState) → Reads a b → b.tree ≡ a.tree
Reads-tree a b reads = ap (λ (s : BackingState). s.tree) reads

-- what was read so far, page by page
pub record ReadSoFar (x y : Outlook) (old now : BackingState) (kept still : Kept) (ino offs n place : ℕ) (out : List ℕ) : Type 0 where
  pub read : out ≡ bytes_from (seen old.tree kept) ino offs (length out)
  pub at : place ≡ offs + length out
  pub within : length out ≤ n
  pub fits : IsKept now.tree still
  pub same : IsSameButClean kept still
  pub reads : Reads old now
  pub goes : Goes 0 old now
  pub sure : SureGoes x y old now

pub read_begins : (x : Outlook) (old : BackingState) (kept : Kept) (ino offs n : ℕ) (out : List ℕ) → IsKept old.tree kept → out ≡ [] → ReadSoFar x x old old kept kept ino offs n offs out
read_begins x old kept ino offs n out is none = rw none record {
  read = refl;
  at = omega arith;
  within = omega arith;
  fits = is;
  same = refl;
  reads = refl;
  goes = Goes-none old;
  sure = Sure-none x old;
}

-- the same is seen where only clean pages differ
pub seen_same : (a b : Tree) (kept still : Kept) → b ≡ a → IsSameButClean kept still → seen b still ≡ seen a kept
seen_same a b kept still t same = ap (λ tree. seen tree still) t ∙ ap (λ k. seen a k) same

-- one page more
pub read_more : (x y z : Outlook) (old now next : BackingState) (kept still after : Kept) (ino offs n place count : ℕ) (out new : List ℕ) → ReadSoFar x y old now kept still ino offs n place out → length out + count ≤ n
    → new ≡ out ++ bytes_from (seen now.tree still) ino place count → IsKept next.tree after → IsSameButClean still after → Reads now next → Goes 0 now next → SureGoes y z now next → ReadSoFar x z old next kept after ino offs n (place + count) new
read_more x y z old now next kept still after ino offs n place count out new so fits told is same reads goes sure =
    let blocks = seen old.tree kept in
    let t = Reads-tree old now so.reads in
    let e : new ≡ out ++ bytes_from blocks ino place count = told ∙ ap (λ (b : Blocks). out ++ bytes_from b ino place count) (seen_same old.tree now.tree kept still t so.same) in
    let piece = bytes_from blocks ino place count in
    let len : length new ≡ length out + count = ap length e ∙ length-append out piece ∙ ap (λ k. length out + k) (length-map-range_with_len (byte_at blocks ino) place count) in
    let a = so.at in
    record {
      read = e ∙ ap (λ xs. xs ++ piece) so.read ∙ ap (λ p. bytes_from blocks ino offs (length out) ++ bytes_from blocks ino p count) a
          ∙ sym (map_range-append (byte_at blocks ino) offs (length out) count) ∙ ap (bytes_from blocks ino offs) (sym len);
      at = omega (arith, len, a);
      within = omega (arith, len, fits);
      fits = is;
      same = Same-then kept still after so.same same;
      reads = Reads-then old now next so.reads reads;
      goes = Goes-then 0 0 old now next so.goes goes;
      sure = Sure-then x y z old now next so.sure sure;
    }

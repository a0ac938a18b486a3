-- What is kept follows the group of a new size: callers see its changes, and what is kept fits the tree.
use Rattle.std.proofs.Common.{◌≡◌, ℕ, zero, suc, ◌+◌, ◌*◌, ◌/◌, ◌%◌, ◌<◌, ◌≤◌, ◌⊎◌, inl, inr, Bool, true, false, cond, max, not, ◌&&◌, List, [], ◌∷◌, length, length-take, take, Option, Some, None, refl, sym, ap, subst, ◌∙◌, arith}
use Rattle.std.specs.Prelude.{◌==◌, filter, fold, nat_lt, nat_le, unwrap_or}
use Rattle.std.specs.List.{AllByRecursion, IsDistinct}
use Rattle.std.specs.Map.{lookup, set_value, keys_of}
use Rattle.std.specs.BTreeMap.{insert_entry, is_at}
use Rattle.std.specs.Ordering.{nat_cmp}
use Rattle.std.proofs.lemmas.Bool.{false≢true, and_parts, cases_lt}
use Rattle.std.proofs.lemmas.Bool.Decides.{nat_tests, eqb_tells}
use Rattle.std.proofs.lemmas.Map.{keys-set_value}
use Rattle.fs_model.specs.declared.change.Change.{Change}
use Rattle.fs_model.specs.declared.change.Change.TheVariants.{SetInode, SetBlock, CutBlocks}
use Rattle.fs_model.specs.declared.inode.Inode.{Inode}
use Rattle.fs_model.specs.declared.inode.Kind.TheVariants.{File}
use Rattle.fs_model.specs.Change.{apply, cut_blocks}
use Rattle.fs_model.specs.Files.{Tree, Files, Inodes, Blocks, blocks_end, block_at, inode_at, pair_cmp, size_of, with_block}
use Rattle.fs_model.specs.Making.{touched}
use Rattle.fs_model.specs.Truncation.{shortening, truncating}
use Rattle.fs_model.specs.Proper.{IsProper, ascends, is_block_node, is_inode_node}
use Rattle.page_cache.specs.Pages.{is_page, is_cut, cut_list}
use Rattle.page_cache.specs.declared.dirty_page.DirtyPage.{DirtyPage}
use Rattle.buffered_files.specs.declared.kept.Kept.{Kept}
use Rattle.buffered_files.specs.Resized.{IsResizing, resized}
use Rattle.buffered_files.specs.Present.{DirtyPages, with_page, has_dirty, present, IsKept, FitsClean, FitsFile, FitsOver, FitsPages}
use Rattle.buffered_files.proofs.Alike.{told_same}
use Rattle.buffered_files.proofs.Clean.{all_found, stays_found}
use Rattle.buffered_files.proofs.Covers.{page_cases, other_ends}
use Rattle.buffered_files.proofs.Ends.{insert_ends, short_block}
use Rattle.buffered_files.proofs.Following.{fewer_ends, filter_pages}
use Rattle.buffered_files.proofs.GroupPut.{GroupPut}
use Rattle.fs_laws.specs.Insertions.{insert_twice}
use Rattle.buffered_files.proofs.Overlays.{insert_late}
use Rattle.buffered_files.proofs.Putting.{numbered}
use Rattle.buffered_files.proofs.Reading.{seen, seen_kept, seen_below, seen_page, seen_over}
use Rattle.buffered_files.proofs.Throughs.{set_through, set_value_here, set_value_other, WasSet, was_set}
use Rattle.fs_laws.specs.Alike.{IsBuiltAlike, kind_and_links}
use Rattle.fs_laws.specs.Maps.{all_at, filter_ascends, insert_ascends, key_cases, set_here, set_other}
use Rattle.fs_laws.specs.Orders.{numbers, pairs}
use Rattle.buffered_files.proofs.PartsLeft.{all_each, all_left, apart_left, all_stay, both_left, ends_by, gone_found, has_left, same_left}

-- what is left of blocks and of dirty pages where a file ends at a size
pub record Cut (tree : Tree) (kept : Kept) (ino size : ℕ) (blocks : Blocks) (test : ℕ × ℕ → Bool) : Type 0 where
  pub others : (q : ℕ × ℕ) → (q.0 ≡ ino → ⊥) → test q ≡ true
  pub stay : (q : ℕ × ℕ) → test q ≡ true → lookup (is_at (pair_cmp q)) blocks ≡ lookup (is_at (pair_cmp q)) tree.blocks
  pub end : blocks_end blocks ino ≤ size
  pub ends : (q most : ℕ) → (q ≡ ino → ⊥) → blocks_end tree.blocks q ≤ most → blocks_end blocks q ≤ most
  pub within : (e : (ℕ × ℕ) × DirtyPage) → FitsPages kept.inodes e → lookup (is_page e.0) kept.pages.dirty ≡ Some e.1 → test e.0 ≡ true → e.0.0 ≡ ino → 4096 * e.0.1 + length e.1.bytes ≤ size

-- a tree in which an inode is set, with these blocks
abbrev pub tree_with : Tree → ℕ → Inode → Blocks → Tree
tree_with tree ino set blocks = record tree { inodes = insert_entry nat_cmp tree.inodes ino set; blocks = blocks }

-- and what is kept of it
abbrev pub kept_with : Kept → ℕ → Inode → (ℕ × ℕ → Bool) → Kept
kept_with kept ino set test = record kept {
  inodes = set_value (is_at (nat_cmp ino)) kept.inodes set;
  pages = record kept.pages { dirty = filter (λ e. test e.0) kept.pages.dirty; clean = filter (λ e. test e.0) kept.pages.clean };
}

module _ (tree : Tree) (kept : Kept) (ino : ℕ) (inode set : Inode) (size : ℕ) (is : IsKept tree kept) (once : IsDistinct is_page (keys_of kept.pages.dirty)) (found : inode_at (present tree kept).tree ino ≡ Some inode) (file : set.kind ≡ File) (sized : set.size ≡ size) where
  -- the inode that is kept is the one that is seen
  kept_is : (old : Inode) → lookup (is_at (nat_cmp ino)) kept.inodes ≡ Some old → old ≡ inode
  kept_is old there =
      let both : Some old ≡ Some inode = sym (seen_kept tree kept ino old is there) ∙ found in
      cc both

  fits_cut : (blocks : Blocks) (test : ℕ × ℕ → Bool) → Cut tree kept ino size blocks test → IsProper (tree_with tree ino set blocks) → IsKept (tree_with tree ino set blocks) (kept_with kept ino set test)
  fits_cut blocks test c proper = record {
    proper = proper;
    ascends = subst (λ keys. ascends nat_cmp keys ≡ true) (sym (keys-set_value (is_at (nat_cmp ino)) kept.inodes set)) is.ascends;
    inodes = λ q x there. file_fits q x (was_set nat_cmp numbers kept.inodes ino set q x there);
    ends = λ q x there. end_fits q x (was_set nat_cmp numbers kept.inodes ino set q x there);
    pages = all_left Found (FitsPages (set_value (is_at (nat_cmp ino)) kept.inodes set)) test (λ e fits t. page_fits e fits t (key_cases nat_cmp numbers e.0.0 ino)) kept.pages.dirty
        (all_each Found kept.pages.dirty once (λ e there. (all_found (FitsPages kept.inodes) e.0 e.1 kept.pages.dirty is.pages there, there)));
    settled = λ q x there none. settle q x none (was_set nat_cmp numbers kept.inodes ino set q x there);
    clean = all_left (FitsClean tree.blocks) (FitsClean blocks) test (λ e fits t. fits ∙ ap (λ o. unwrap_or o []) (sym (c.stay e.0 t))) kept.pages.clean is.clean;
    covers = all_left (FitsOver tree.blocks) (FitsOver blocks) test (λ e over t. subst (λ o. length (unwrap_or o []) ≤ length e.1.bytes) (sym (c.stay e.0 t)) over) kept.pages.dirty is.covers;
  }
    where
      after : Tree
      after = tree_with tree ino set blocks

      Found : (ℕ × ℕ) × DirtyPage → Type 0
      Found e = FitsPages kept.inodes e × (lookup (is_page e.0) kept.pages.dirty ≡ Some e.1)

      here : (q : ℕ) (x : Inode) → q ≡ ino → x ≡ set → inode_at after q ≡ Some x
      here q x same value = ap (λ k. inode_at after k) same ∙ set_here nat_cmp numbers tree.inodes ino set ∙ ap (λ z. Some z) (sym value)

      there : (q : ℕ) → (q ≡ ino → ⊥) → inode_at after q ≡ inode_at tree q
      there q two = set_other nat_cmp numbers tree.inodes ino set q two

      file_fits : (q : ℕ) (x : Inode) → WasSet nat_cmp kept.inodes ino set q x ⊎ ((q ≡ ino → ⊥) × (lookup (is_at (nat_cmp q)) kept.inodes ≡ Some x)) → FitsFile after q x
      file_fits q x (inl was) =
          let at = here q x was.same was.value in
          let kind : x.kind ≡ File = ap (λ (i : Inode). i.kind) was.value ∙ file in
          record { node = all_at nat_cmp numbers is_inode_node after.inodes q x proper.inode_nodes at; kind = kind; below = (x, at, kind, refl) }
      file_fits q x (inr other) =
          let it = is.inodes q x other.1 in
          record { node = it.node; kind = it.kind; below = (it.below.0, there q other.0 ∙ it.below.1, it.below.2, it.below.3) }

      end_fits : (q : ℕ) (x : Inode) → WasSet nat_cmp kept.inodes ino set q x ⊎ ((q ≡ ino → ⊥) × (lookup (is_at (nat_cmp q)) kept.inodes ≡ Some x)) → blocks_end blocks q ≤ x.size
      end_fits q x (inl was) =
          let n : x.size ≡ size = ap (λ (i : Inode). i.size) was.value ∙ sized in
          let end : blocks_end blocks q ≤ size = subst (λ k. blocks_end blocks k ≤ size) (sym was.same) c.end in
          omega (arith, n, end)
      end_fits q x (inr other) = c.ends q x.size other.0 (is.ends q x other.1)

      page_fits : (e : (ℕ × ℕ) × DirtyPage) → Found e → test e.0 ≡ true → (e.0.0 ≡ ino) ⊎ (e.0.0 ≡ ino → ⊥) → FitsPages (set_value (is_at (nat_cmp ino)) kept.inodes set) e
      page_fits e fits t (inl same) =
          let was : lookup (is_at (nat_cmp ino)) kept.inodes ≡ Some fits.0.0 = subst (λ k. lookup (is_at (nat_cmp k)) kept.inodes ≡ Some fits.0.0) same fits.0.1 in
          let now : lookup (is_at (nat_cmp e.0.0)) (set_value (is_at (nat_cmp ino)) kept.inodes set) ≡ Some set =
          subst (λ k. lookup (is_at (nat_cmp k)) (set_value (is_at (nat_cmp ino)) kept.inodes set) ≡ Some set) (sym same) (set_value_here nat_cmp numbers kept.inodes ino fits.0.0 set was) in
          let inside = c.within e fits.0 fits.1 t same in
          let n = sized in
          (set, now, fits.0.2, omega (arith, inside, n))
      page_fits e fits t (inr two) = (fits.0.0, set_value_other nat_cmp numbers kept.inodes ino e.0.0 set two ∙ fits.0.1, fits.0.2, fits.0.3)

      settle : (q : ℕ) (x : Inode) → has_dirty (filter (λ e. test e.0) kept.pages.dirty) q ≡ false → WasSet nat_cmp kept.inodes ino set q x ⊎ ((q ≡ ino → ⊥) × (lookup (is_at (nat_cmp q)) kept.inodes ≡ Some x)) → inode_at after q ≡ Some x
      settle q x none (inl was) = here q x was.same was.value
      settle q x none (inr other) =
          let before : has_dirty kept.pages.dirty q ≡ false = sym (has_left test q (λ k same. c.others k (λ at. other.0 (sym same ∙ at))) kept.pages.dirty) ∙ none in
          there q other.0 ∙ is.settled q x other.1 before

  -- callers see the inode set, and these blocks
  seen_cut : (blocks above : Blocks) (test : ℕ × ℕ → Bool) → fold with_page blocks (filter (λ e. test e.0) kept.pages.dirty) ≡ above
      → present (tree_with tree ino set blocks) (kept_with kept ino set test) ≡ record (present tree kept) { tree = tree_with (present tree kept).tree ino set above }
  seen_cut blocks above test same =
      let files : Inodes → Blocks → Files = λ inodes blocks. record { tree = record tree { inodes = inodes; blocks = blocks }; handles = kept.handles } in
      ap (λ inodes. files inodes (fold with_page blocks (filter (λ e. test e.0) kept.pages.dirty))) (set_through nat_cmp numbers kept.inodes tree.inodes ino set is.ascends)
      ∙ ap (λ blocks. files (insert_entry nat_cmp (present tree kept).tree.inodes ino set) blocks) same

  -- the tree's blocks end within the file that is seen
  below_ends : blocks_end tree.blocks ino ≤ size_of (present tree kept).tree ino inode
  below_ends = by (lookup (is_at (nat_cmp ino)) kept.inodes) refl
    where
      by : (o : Option Inode) → lookup (is_at (nat_cmp ino)) kept.inodes ≡ o → blocks_end tree.blocks ino ≤ size_of (present tree kept).tree ino inode
      by None none = let end = other_ends kept.inodes kept.pages.dirty tree.blocks ino none is.pages in omega (arith, end)
      by (Some old) there =
          let same = ap (λ (i : Inode). i.size) (kept_is old there) in
          let end = is.ends ino old there in
          omega (arith, same, end)

  -- its dirty pages end within the size that is kept
  page_ends : (e : (ℕ × ℕ) × DirtyPage) → FitsPages kept.inodes e → e.0.0 ≡ ino → 4096 * e.0.1 + length e.1.bytes ≤ size_of (present tree kept).tree ino inode
  page_ends e fits same =
      let there : lookup (is_at (nat_cmp ino)) kept.inodes ≡ Some fits.0 = subst (λ k. lookup (is_at (nat_cmp k)) kept.inodes ≡ Some fits.0) same fits.1 in
      let n = ap (λ (i : Inode). i.size) (kept_is fits.0 there) in
      let end = fits.3 in
      omega (arith, n, end)

  -- a greater size takes nothing away
  grown : size_of (present tree kept).tree ino inode ≤ size → Cut tree kept ino size tree.blocks (λ q. true)
  grown more = record {
    others = λ q two. refl;
    stay = λ q t. refl;
    end = let end = below_ends in omega (arith, end, more);
    ends = λ q most two h. h;
    within = λ e fits there t same. let end = page_ends e fits same in omega (arith, end, more);
  }

-- the key of a block
abbrev pair : ℕ → ℕ → ℕ × ℕ
pair ino block = (ino, block)

-- whether a block or page is of another file, or begins before a size
abbrev pub begins_before : ℕ → ℕ → ℕ × ℕ → Bool
begins_before ino size q = not ((q.0 == ino) && nat_le size (4096 * q.1))

-- whether it is of another file, or stands before a block
abbrev pub stands_before : ℕ → ℕ → ℕ × ℕ → Bool
stands_before ino from q = not (is_cut ino from q)

number_is : (a b : ℕ) → a ≡ b → (a == b) ≡ true
number_is a b same = grind (arith, nat_tests)

number_not : (a b : ℕ) → (a ≡ b → ⊥) → (a == b) ≡ false
number_not a b two = elim (eqb_tells a b) [
  | inl same ↦ absurd (two same.1)
  | inr other ↦ other.0
]

pub other_begins : (ino size : ℕ) (q : ℕ × ℕ) → (q.0 ≡ ino → ⊥) → begins_before ino size q ≡ true
other_begins ino size q two = rw (number_not q.0 ino two) refl

other_stands : (ino from : ℕ) (q : ℕ × ℕ) → (q.0 ≡ ino → ⊥) → stands_before ino from q ≡ true
other_stands ino from q two = rw (number_not q.0 ino two) refl

begins_is : (ino size : ℕ) (q : ℕ × ℕ) → begins_before ino size q ≡ true → q.0 ≡ ino → 4096 * q.1 < size
begins_is ino size q t same =
    let less : not (nat_le size (4096 * q.1)) ≡ true = rw (number_is q.0 ino same) at t in
    grind (arith, nat_tests)

stands_is : (ino from : ℕ) (q : ℕ × ℕ) → stands_before ino from q ≡ true → q.0 ≡ ino → q.1 < from
stands_is ino from q t same =
    let less : not (nat_le from q.1) ≡ true = rw (number_is q.0 ino same) at t in
    grind (arith, nat_tests)

le_true : (a b : ℕ) → a ≤ b → nat_le a b ≡ true
le_true a b h = grind (arith, nat_tests)

pub le_false : (a b : ℕ) → b < a → nat_le a b ≡ false
le_false a b h = grind (arith, nat_tests)

-- the first page that begins at a size or past it
even_test : (ino size : ℕ) (q : ℕ × ℕ) → begins_before ino size q ≡ stands_before ino ((size + 4095) / 4096) q
even_test ino size q = ap (λ b. not ((q.0 == ino) && b)) (by (cases_lt (4096 * q.1) size))
  where
    by : (4096 * q.1 < size) ⊎ (size ≤ 4096 * q.1) → nat_le size (4096 * q.1) ≡ nat_le ((size + 4095) / 4096) q.1
    by (inl before) = le_false size (4096 * q.1) before ∙ sym (le_false ((size + 4095) / 4096) q.1 (omega (arith, before)))
    by (inr past) = le_true size (4096 * q.1) past ∙ sym (le_true ((size + 4095) / 4096) q.1 (omega (arith, past)))

-- and the page in which the size lies
inside_test : (ino size : ℕ) (q : ℕ × ℕ) → 0 < size % 4096 → stands_before ino (size / 4096) q ≡ (begins_before ino size q && not (is_page (ino, size / 4096) q))
inside_test ino size q some = elim (eqb_tells q.0 ino) [
  | inl same ↦ rw (same.0, number_is ino q.0 (sym same.1)) (by (cases_lt q.1 (size / 4096)))
  | inr two ↦ rw (two.0, number_not ino q.0 (λ s. two.1 (sym s))) refl
]
  where
    Goal : Type 0
    Goal = not (nat_le (size / 4096) q.1) ≡ (not (nat_le size (4096 * q.1)) && not ((size / 4096) == q.1))

    past : (q.1 < size / 4096 + 1) ⊎ (size / 4096 + 1 ≤ q.1) → size / 4096 ≤ q.1 → Goal
    past (inl here) ge =
        let is : size / 4096 ≡ q.1 = omega (arith, here, ge) in
        rw (le_true (size / 4096) q.1 ge, le_false size (4096 * q.1) (omega (arith, is, some)), number_is (size / 4096) q.1 is) refl
    past (inr more) ge = rw (le_true (size / 4096) q.1 ge, le_true size (4096 * q.1) (omega (arith, more))) refl

    by : (q.1 < size / 4096) ⊎ (size / 4096 ≤ q.1) → Goal
    by (inl less) = rw (le_false (size / 4096) q.1 less, le_false size (4096 * q.1) (omega (arith, less)), number_not (size / 4096) q.1 (λ is. absurd (omega (arith, is, less)))) refl
    by (inr ge) = past (cases_lt q.1 (size / 4096 + 1)) ge

-- a block that begins before a size ends within it, but for the one in which the size lies
within_size : (size n len : ℕ) → 4096 * n < size → len ≤ 4096 → (n ≡ size / 4096 → 0 < size % 4096 → len ≤ size % 4096) → 4096 * n + len ≤ size
within_size size n len starts short last = by (cases_lt n (size / 4096))
  where
    by : (n < size / 4096) ⊎ (size / 4096 ≤ n) → 4096 * n + len ≤ size
    by (inl less) = omega (arith, less, short)
    by (inr ge) =
        let is : n ≡ size / 4096 = omega (arith, starts, ge) in
        let few = last is (omega (arith, starts, is)) in
        omega (arith, is, few)

-- a block that isn't shortened ends there
short_of : (k len : ℕ) → (not (k == 0) && nat_lt k len) ≡ false → 0 < k → len ≤ k
short_of k len none some =
    let less : nat_lt k len ≡ false = rw (number_not k 0 (λ none. absurd (omega (arith, none, some)))) at none in
    grind (arith, nat_tests)

-- and one that is shortened is longer
long_of : (k len : ℕ) → (not (k == 0) && nat_lt k len) ≡ true → (0 < k) × (k < len)
long_of k len is = by (eqb_tells k 0) (and_parts (not (k == 0)) (nat_lt k len) is)
  where
    by : (((k == 0) ≡ true) × (k ≡ 0)) ⊎ (((k == 0) ≡ false) × (k ≡ 0 → ⊥)) → (not (k == 0) ≡ true) × (nat_lt k len ≡ true) → (0 < k) × (k < len)
    by (inl none) parts = let t : false ≡ true = rw none.0 at parts.0 in absurd (false≢true t)
    by (inr other) parts =
        let less : nat_lt k len ≡ true = parts.1 in
        (some k other.1, grind (arith, nat_tests))
      where
        some : (n : ℕ) → (n ≡ 0 → ⊥) → 0 < n
        some zero not_zero = absurd (not_zero refl)
        some (suc n) not_zero = omega arith

-- pages of other names
none_named : (k : ℕ × ℕ) (es : DirtyPages) → AllByRecursion (λ y. is_page k y ≡ false) (keys_of (filter (λ d. not (is_page k d.0)) es))
none_named k [] = tt
none_named k (d ∷ es) = one (none_named k es) (is_page k d.0) refl
  where
    one : AllByRecursion (λ y. is_page k y ≡ false) (keys_of (filter (λ c. not (is_page k c.0)) es)) → (b : Bool) → is_page k d.0 ≡ b → AllByRecursion (λ y. is_page k y ≡ false) (keys_of (cond (not b) (d ∷ filter (λ c. not (is_page k c.0)) es) (filter (λ c. not (is_page k c.0)) es)))
    one more true t = more
    one more false t = (t, more)

-- a page that is set in the end needn't be set before
set_last : (k : ℕ × ℕ) (bytes : List ℕ) (dirty : DirtyPages) (blocks : Blocks)
    → insert_entry pair_cmp (fold with_page blocks (filter (λ e. not (is_page k e.0)) dirty)) k bytes ≡ insert_entry pair_cmp (fold with_page blocks dirty) k bytes
set_last k bytes [] blocks = refl
set_last k bytes (e ∷ dirty) blocks = by (λ b. set_last k bytes dirty b) (page_cases k e.0)
  where
    left : DirtyPages
    left = filter (λ d. not (is_page k d.0)) dirty

    More : Type 0
    More = (b : Blocks) → insert_entry pair_cmp (fold with_page b left) k bytes ≡ insert_entry pair_cmp (fold with_page b dirty) k bytes

    by : More → ((k ≡ e.0) × (is_page k e.0 ≡ true)) ⊎ ((k ≡ e.0 → ⊥) × (is_page k e.0 ≡ false))
        → insert_entry pair_cmp (fold with_page blocks (filter (λ d. not (is_page k d.0)) (e ∷ dirty))) k bytes ≡ insert_entry pair_cmp (fold with_page (with_page blocks e) dirty) k bytes
    by more (inl same) =
        rw same.1
        (sym (insert_twice pair_cmp pairs (fold with_page blocks left) k e.1.bytes bytes)
        ∙ ap (λ b. insert_entry pair_cmp b k bytes) (sym (insert_late left blocks k e.1.bytes (none_named k dirty)))
        ∙ ap (λ q. insert_entry pair_cmp (fold with_page (insert_entry pair_cmp blocks q e.1.bytes) left) k bytes) same.0
        ∙ more (with_page blocks e))
    by more (inr two) = rw two.1 (more (with_page blocks e))

module _ (tree : Tree) (kept : Kept) (ino size : ℕ) (is : IsKept tree kept) (once : IsDistinct is_page (keys_of kept.pages.dirty)) where
  abbrev last : List ℕ
  last = block_at (seen tree kept) ino (size / 4096)

  -- a block of the tree
  stored : (n : ℕ) (bytes : List ℕ) → lookup (is_at (pair_cmp (ino, n))) (cut_blocks tree.blocks ino size) ≡ Some bytes → (4096 * n < size) × (length bytes ≤ 4096) × (block_at tree.blocks ino n ≡ bytes)
  stored n bytes found =
      let t = gone_found (begins_before ino size) tree.blocks (ino, n) bytes found in
      let there = sym (stays_found (begins_before ino size) tree.blocks (ino, n) t) ∙ found in
      (begins_is ino size (ino, n) t refl, short_block (ino, n) bytes (all_at pair_cmp pairs is_block_node tree.blocks (ino, n) bytes is.proper.block_nodes there), ap (λ o. unwrap_or o []) there)

  cut_up : ascends pair_cmp (keys_of (cut_blocks tree.blocks ino size)) ≡ true
  cut_up = filter_ascends pair_cmp pairs (λ b. begins_before ino size b.0) tree.blocks is.proper.blocks_ascend

  -- where no block is shortened
  pub cut_even : (not (size % 4096 == 0) && nat_lt (size % 4096) (length last)) ≡ false → Cut tree kept ino size (cut_blocks tree.blocks ino size) (begins_before ino size)
  cut_even none = record {
    others = λ q two. other_begins ino size q two;
    stay = λ q t. stays_found (begins_before ino size) tree.blocks q t;
    end = ends_by (cut_blocks tree.blocks ino size) ino size cut_up (λ n bytes found. let it = stored n bytes found in within_size size n (length bytes) it.0 it.1 (λ at some. low n bytes it.2 at some));
    ends = λ q most two h. fewer_ends (λ b. begins_before ino size b.0) q most tree.blocks h;
    within = λ e fits there t same. within_size size e.0.1 (length e.1.bytes) (begins_is ino size e.0 t same) (short_block e.0 e.1.bytes fits.2) (λ at some. high e there same at some);
  }
    where
      low : (n : ℕ) (bytes : List ℕ) → block_at tree.blocks ino n ≡ bytes → n ≡ size / 4096 → 0 < size % 4096 → length bytes ≤ size % 4096
      low n bytes at same some =
          let few = short_of (size % 4096) (length last) none some in
          let over = seen_over tree kept ino (size / 4096) is once in
          let m : length (block_at tree.blocks ino (size / 4096)) ≡ length bytes = ap (λ k. length (block_at tree.blocks ino k)) (sym same) ∙ ap (λ bs. length bs) at in
          omega (arith, few, over, m)

      high : (e : (ℕ × ℕ) × DirtyPage) → lookup (is_page e.0) kept.pages.dirty ≡ Some e.1 → e.0.0 ≡ ino → e.0.1 ≡ size / 4096 → 0 < size % 4096 → length e.1.bytes ≤ size % 4096
      high e there same at some =
          let few = short_of (size % 4096) (length last) none some in
          let shown : block_at (seen tree kept) e.0.0 e.0.1 ≡ e.1.bytes = seen_page tree kept e.0.0 e.0.1 e.1 once there in
          let m : length last ≡ length e.1.bytes = ap (λ k. length (block_at (seen tree kept) k (size / 4096))) (sym same) ∙ ap (λ k. length (block_at (seen tree kept) e.0.0 k)) (sym at) ∙ ap (λ bs. length bs) shown in
          omega (arith, few, m)

  -- the blocks where one is shortened
  abbrev shortened : Blocks → Blocks
  shortened blocks = with_block (cut_blocks blocks ino size) ino (size / 4096) (take (size % 4096) last)

  pub cut_inside : (not (size % 4096 == 0) && nat_lt (size % 4096) (length last)) ≡ true → Cut tree kept ino size (shortened tree.blocks) (stands_before ino (size / 4096))
  cut_inside is_long = record {
    others = λ q two. other_stands ino (size / 4096) q two;
    stay = λ q t. set_other pair_cmp pairs (cut_blocks tree.blocks ino size) (ino, size / 4096) (take (size % 4096) last) q (apart q t) ∙ stays_found (begins_before ino size) tree.blocks q (begins q t);
    end = ends_by (shortened tree.blocks) ino size (insert_ascends pair_cmp pairs (cut_blocks tree.blocks ino size) (ino, size / 4096) (take (size % 4096) last) cut_up) (λ n bytes found. end n bytes found (key_cases pair_cmp pairs (pair ino n) (pair ino (size / 4096))));
    ends = λ q most two h. insert_ends (cut_blocks tree.blocks ino size) (ino, size / 4096) (take (size % 4096) last) q most (fewer_ends (λ b. begins_before ino size b.0) q most tree.blocks h) (λ same. absurd (two (sym same)));
    within = λ e fits there t same. let less = stands_is ino (size / 4096) e.0 t same in let short = short_block e.0 e.1.bytes fits.2 in omega (arith, less, short);
  }
    where
      long : (0 < size % 4096) × (size % 4096 < length last)
      long = long_of (size % 4096) (length last) is_long

      begins : (q : ℕ × ℕ) → stands_before ino (size / 4096) q ≡ true → begins_before ino size q ≡ true
      begins q t = (and_parts (begins_before ino size q) (not (is_page (ino, size / 4096) q)) (sym (inside_test ino size q long.0) ∙ t)).0

      apart : (q : ℕ × ℕ) → stands_before ino (size / 4096) q ≡ true → q ≡ pair ino (size / 4096) → ⊥
      apart q t same = let less = stands_is ino (size / 4096) q t (ap (λ k. k.0) same) in let at : q.1 ≡ size / 4096 = ap (λ k. k.1) same in absurd (omega (arith, less, at))

      end : (n : ℕ) (bytes : List ℕ) → lookup (is_at (pair_cmp (ino, n))) (shortened tree.blocks) ≡ Some bytes → (pair ino n ≡ pair ino (size / 4096)) ⊎ (pair ino n ≡ pair ino (size / 4096) → ⊥) → 4096 * n + length bytes ≤ size
      end n bytes found (inl same) =
          let P : ℕ × ℕ → Type 0 = λ k. lookup (is_at (pair_cmp k)) (shortened tree.blocks) ≡ Some bytes in
          let both : Some bytes ≡ Some (take (size % 4096) last) = sym (subst P same found) ∙ set_here pair_cmp pairs (cut_blocks tree.blocks ino size) (ino, size / 4096) (take (size % 4096) last) in
          let is : bytes ≡ take (size % 4096) last = cc both in
          let m = ap (λ bs. length bs) is ∙ length-take (size % 4096) last in
          let at : n ≡ size / 4096 = ap (λ k. k.1) same in
          let l = long.1 in
          omega (arith, m, at, l)
      end n bytes found (inr two) =
          let it = stored n bytes (sym (set_other pair_cmp pairs (cut_blocks tree.blocks ino size) (ino, size / 4096) (take (size % 4096) last) (ino, n) two) ∙ found) in
          within_size size n (length bytes) it.0 it.1 (λ at some. absurd (two (ap (λ k. (ino, k)) at)))

  seen_even : fold with_page (cut_blocks tree.blocks ino size) (filter (λ e. begins_before ino size e.0) kept.pages.dirty) ≡ cut_blocks (seen tree kept) ino size
  seen_even = filter_pages (begins_before ino size) kept.pages.dirty tree.blocks is.proper.blocks_ascend

  seen_inside : 0 < size % 4096 → fold with_page (shortened tree.blocks) (filter (λ e. stands_before ino (size / 4096) e.0) kept.pages.dirty) ≡ shortened (seen tree kept)
  seen_inside some =
      let k : ℕ × ℕ = (ino, size / 4096) in
      let bytes = take (size % 4096) last in
      let under = cut_blocks tree.blocks ino size in
      let both = both_left (λ q. not (is_page k q)) (begins_before ino size) (stands_before ino (size / 4096)) (λ q. inside_test ino size q some) kept.pages.dirty in
      insert_late (filter (λ e. stands_before ino (size / 4096) e.0) kept.pages.dirty) under k bytes (apart_left k (stands_before ino (size / 4096)) (gone refl) kept.pages.dirty)
      ∙ ap (λ d. insert_entry pair_cmp (fold with_page under d) k bytes) (sym both)
      ∙ set_last k bytes (filter (λ e. begins_before ino size e.0) kept.pages.dirty) under
      ∙ ap (λ b. insert_entry pair_cmp b k bytes) seen_even
    where
      gone : ino ≡ ino → stands_before ino (size / 4096) (ino, size / 4096) ≡ false
      gone same = rw (number_is ino ino same, le_true (size / 4096) (size / 4096) (omega arith)) refl

-- the tree after the group of a size that isn't smaller
pub apply_set : (t : Tree) (ino : ℕ) (set : Inode) → ino ≤ t.highest → apply t (SetInode ino set ∷ []) ≡ tree_with t ino set t.blocks
apply_set t ino set low =
    let m : max t.highest ino ≡ t.highest = omega (arith, low) in
    rw m refl

-- of one that is smaller
pub apply_cut : (t : Tree) (ino size old : ℕ) (set : Inode) → ino ≤ t.highest → apply t (SetInode ino set ∷ CutBlocks ino old size ∷ []) ≡ tree_with t ino set (cut_blocks t.blocks ino size)
apply_cut t ino size old set low =
    let m : max (max t.highest ino) ino ≡ t.highest = omega (arith, low) in
    rw m refl

-- and of one by which a block is shortened
pub apply_shortened : (t : Tree) (ino size old block : ℕ) (bytes : List ℕ) (set : Inode) → ino ≤ t.highest
    → apply t (SetInode ino set ∷ CutBlocks ino old size ∷ SetBlock ino block bytes ∷ []) ≡ tree_with t ino set (with_block (cut_blocks t.blocks ino size) ino block bytes)
apply_shortened t ino size old block bytes set low =
    let here = set_here nat_cmp numbers t.inodes ino set in
    let m : max (max (max t.highest ino) ino) ino ≡ t.highest = omega (arith, low) in
    rw (here, m) refl

-- an inode that callers see is in the tree
pub seen_there : (tree : Tree) (kept : Kept) (ino : ℕ) (inode : Inode) → IsKept tree kept → inode_at (present tree kept).tree ino ≡ Some inode → ino ≤ tree.highest
seen_there tree kept ino inode is found = by (lookup (is_at (nat_cmp ino)) kept.inodes) refl
  where
    by : (o : Option Inode) → lookup (is_at (nat_cmp ino)) kept.inodes ≡ o → ino ≤ tree.highest
    by None none = numbered tree ino inode is.proper (sym (seen_below tree kept ino is none) ∙ found)
    by (Some old) there = let it = (is.inodes ino old there).below in numbered tree ino it.0 is.proper it.1

module _ (tree : Tree) (kept : Kept) (ino : ℕ) (inode : Inode) (size now : ℕ) (is : IsKept tree kept) (once : IsDistinct is_page (keys_of kept.pages.dirty)) (found : inode_at (present tree kept).tree ino ≡ Some inode) (file : inode.kind ≡ File) where
  abbrev to : Inode
  to = touched now (record inode { size = size })

  abbrev end : ℕ
  end = size_of (present tree kept).tree ino inode

  low : ino ≤ tree.highest
  low = seen_there tree kept ino inode is found

  -- a group that was put, by what it makes of both trees
  whole : (group : List Change) (test : ℕ × ℕ → Bool) (blocks above : Blocks) → apply tree group ≡ tree_with tree ino to blocks → apply (present tree kept).tree group ≡ tree_with (present tree kept).tree ino to above → kept_with kept ino to test ≡ resized kept group
      → IsKept (tree_with tree ino to blocks) (kept_with kept ino to test) → present (tree_with tree ino to blocks) (kept_with kept ino to test) ≡ record (present tree kept) { tree = tree_with (present tree kept).tree ino to above }
      → GroupPut tree (apply tree group) kept (resized kept group) group
  whole group test blocks above made made_above same fits shown = record {
    fits = subst (λ t. IsKept t (resized kept group)) (sym made) (subst (λ k. IsKept (tree_with tree ino to blocks) k) same fits);
    seen = ap (λ t. present t (resized kept group)) made ∙ ap (λ k. present (tree_with tree ino to blocks) k) (sym same) ∙ shown ∙ ap (λ t. record (present tree kept) { tree = t }) (sym made_above);
  }

  put_by_cut : (group : List Change) (test : ℕ × ℕ → Bool) (blocks above : Blocks) → apply tree group ≡ tree_with tree ino to blocks → apply (present tree kept).tree group ≡ tree_with (present tree kept).tree ino to above → kept_with kept ino to test ≡ resized kept group
      → Cut tree kept ino size blocks test → fold with_page blocks (filter (λ e. test e.0) kept.pages.dirty) ≡ above → IsProper (apply tree group) → GroupPut tree (apply tree group) kept (resized kept group) group
  put_by_cut group test blocks above made made_above same cut covers proper =
      whole group test blocks above made made_above same
      (fits_cut tree kept ino inode to size is once found file refl blocks test cut (subst IsProper made proper))
      (seen_cut tree kept ino inode to size is once found file refl blocks above test covers)

  abbrev Put : List Change → Type 0
  Put group = IsProper (apply tree group) → GroupPut tree (apply tree group) kept (resized kept group) group

  put_grown : end ≤ size → Put (SetInode ino to ∷ [])
  put_grown more =
      put_by_cut (SetInode ino to ∷ []) (λ q. true) tree.blocks (seen tree kept) (apply_set tree ino to low) (apply_set (present tree kept).tree ino to low)
      (ap (λ dirty. record kept { inodes = set_value (is_at (nat_cmp ino)) kept.inodes to; pages = record kept.pages { dirty = dirty; clean = filter (λ e. true) kept.pages.clean } }) (all_stay kept.pages.dirty)
      ∙ ap (λ clean. record kept { inodes = set_value (is_at (nat_cmp ino)) kept.inodes to; pages = record kept.pages { clean = clean } }) (all_stay kept.pages.clean))
      (grown tree kept ino inode to size is once found file refl more)
      (ap (λ d. fold with_page tree.blocks d) (all_stay kept.pages.dirty))

  put_even : (not (size % 4096 == 0) && nat_lt (size % 4096) (length (last tree kept ino size is once))) ≡ false → Put (SetInode ino to ∷ CutBlocks ino end size ∷ [])
  put_even none =
      put_by_cut (SetInode ino to ∷ CutBlocks ino end size ∷ []) (begins_before ino size) (cut_blocks tree.blocks ino size) (cut_blocks (seen tree kept) ino size)
      (apply_cut tree ino size end to low) (apply_cut (present tree kept).tree ino size end to low)
      (ap (λ dirty. record kept { inodes = set_value (is_at (nat_cmp ino)) kept.inodes to; pages = record kept.pages { dirty = dirty; clean = filter (λ e. begins_before ino size e.0) kept.pages.clean } }) (same_left (begins_before ino size) (stands_before ino ((size + 4095) / 4096)) (even_test ino size) kept.pages.dirty)
      ∙ ap (λ clean. record kept { inodes = set_value (is_at (nat_cmp ino)) kept.inodes to; pages = record kept.pages { dirty = cut_list kept.pages.dirty ino ((size + 4095) / 4096); clean = clean } }) (same_left (begins_before ino size) (stands_before ino ((size + 4095) / 4096)) (even_test ino size) kept.pages.clean))
      (cut_even tree kept ino size is once none) (seen_even tree kept ino size is once)

  put_inside : (not (size % 4096 == 0) && nat_lt (size % 4096) (length (last tree kept ino size is once))) ≡ true → Put (SetInode ino to ∷ CutBlocks ino end size ∷ SetBlock ino (size / 4096) (take (size % 4096) (last tree kept ino size is once)) ∷ [])
  put_inside is_long =
      put_by_cut (SetInode ino to ∷ CutBlocks ino end size ∷ SetBlock ino (size / 4096) (take (size % 4096) (last tree kept ino size is once)) ∷ []) (stands_before ino (size / 4096)) (shortened tree kept ino size is once tree.blocks) (shortened tree kept ino size is once (seen tree kept))
      (apply_shortened tree ino size end (size / 4096) (take (size % 4096) (last tree kept ino size is once)) to low) (apply_shortened (present tree kept).tree ino size end (size / 4096) (take (size % 4096) (last tree kept ino size is once)) to low)
      refl
      (cut_inside tree kept ino size is once is_long) (seen_inside tree kept ino size is once (long_of (size % 4096) (length (last tree kept ino size is once)) is_long).0)

  put_size : Put (truncating (present tree kept).tree ino inode size now)
  put_size = by (nat_lt size end) refl
    where
      shorter : (b : Bool) → (not (size % 4096 == 0) && nat_lt (size % 4096) (length (last tree kept ino size is once))) ≡ b
          → Put (SetInode ino to ∷ CutBlocks ino end size ∷ cond b (SetBlock ino (size / 4096) (take (size % 4096) (last tree kept ino size is once)) ∷ []) [])
      shorter true t = put_inside t
      shorter false t = put_even t

      by : (b : Bool) → nat_lt size end ≡ b → Put (SetInode ino to ∷ cond b (CutBlocks ino end size ∷ shortening (seen tree kept) ino size) [])
      by true t = shorter (not (size % 4096 == 0) && nat_lt (size % 4096) (length (last tree kept ino size is once))) refl
      by false t = put_grown (let less : nat_lt size end ≡ false = t in grind (arith, nat_tests))

-- callers see the group of a new size, and what is kept fits the tree
pub size_put : (tree : Tree) (kept : Kept) (group : List Change) → IsKept tree kept → IsDistinct is_page (keys_of kept.pages.dirty) → IsResizing (present tree kept).tree group → IsProper (apply tree group) → GroupPut tree (apply tree group) kept (resized kept group) group
size_put tree kept group is once r proper =
    let Put : List Change → Type 0 = λ g. IsProper (apply tree g) → GroupPut tree (apply tree g) kept (resized kept g) g in
    subst Put (sym r.group_is) (put_size tree kept r.ino r.inode r.size r.now is once r.found r.file) proper

-- a group of a new size leaves a tree built alike
record Resized (t : Tree) (ino : ℕ) (set : Inode) (group : List Change) : Type 0 where
  pub blocks : Blocks
  pub is : apply t group ≡ tree_with t ino set blocks

resized_tree : (t : Tree) (ino : ℕ) (inode : Inode) (size now : ℕ) → ino ≤ t.highest → Resized t ino (touched now (record inode { size = size })) (truncating t ino inode size now)
resized_tree t ino inode size now low = by (nat_lt size (size_of t ino inode))
  where
    set : Inode
    set = touched now (record inode { size = size })

    shorter : (b : Bool) (bytes : List ℕ) → Resized t ino set (SetInode ino set ∷ CutBlocks ino (size_of t ino inode) size ∷ cond b (SetBlock ino (size / 4096) bytes ∷ []) [])
    shorter true bytes = record { blocks = with_block (cut_blocks t.blocks ino size) ino (size / 4096) bytes; is = apply_shortened t ino size (size_of t ino inode) (size / 4096) bytes set low }
    shorter false bytes = record { blocks = cut_blocks t.blocks ino size; is = apply_cut t ino size (size_of t ino inode) set low }

    by : (b : Bool) → Resized t ino set (SetInode ino set ∷ cond b (CutBlocks ino (size_of t ino inode) size ∷ shortening t.blocks ino size) [])
    by true = shorter (not (size % 4096 == 0) && nat_lt (size % 4096) (length (block_at t.blocks ino (size / 4096)))) (take (size % 4096) (block_at t.blocks ino (size / 4096)))
    by false = record { blocks = t.blocks; is = apply_set t ino set low }

pub resized_alike : (t : Tree) (group : List Change) → ascends nat_cmp (keys_of t.inodes) ≡ true → (r : IsResizing t group) → r.ino ≤ t.highest → IsBuiltAlike (apply t group) t
resized_alike t group up r low =
    let set = touched r.now (record r.inode { size = r.size }) in
    let made = resized_tree t r.ino r.inode r.size r.now low in
    let alike : IsBuiltAlike (tree_with t r.ino set made.blocks) t = record { inodes = told_same kind_and_links t.inodes r.ino r.inode set up r.found refl; entries = refl; highest = refl } in
    subst (λ g. IsBuiltAlike (apply t g) t) (sym r.group_is) (subst (λ x. IsBuiltAlike x t) (sym made.is) alike)

-- What is kept once a file was written.
use Rattle.std.proofs.Common.{◌≡◌, ℕ, zero, suc, ◌+◌, ◌-◌, ◌*◌, ◌/◌, ◌<◌, ◌≤◌, ◌⊎◌, inl, inr, Bool, true, false, cond, not, max, List, [], ◌∷◌, ◌++◌, length, map, is_some, Option, Some, None, refl, sym, ap, subst, ◌∙◌, arith, eqb, append_assoc, append-nil}
use Rattle.std.specs.Prelude.{filter, fold}
use Rattle.std.specs.List.{AllByRecursion, IsDistinct, range_with_len}
use Rattle.std.specs.Map.{lookup, keys_of, set_value}
use Rattle.std.specs.BTreeMap.{insert_entry, is_at}
use Rattle.std.specs.Ordering.{nat_cmp}
use Rattle.std.proofs.lemmas.Bool.Decides.{nat_tests}
use Rattle.fs_model.specs.declared.inode.Inode.{Inode}
use Rattle.fs_model.specs.declared.inode.Kind.TheVariants.{File}
use Rattle.fs_model.specs.Backing.{BackingState, Outlook, Goes, Reads}
use Rattle.fs_model.specs.Files.{Tree, Files, Blocks, Inodes, inode_at, block_at, blocks_end, size_of, pages_of, page_written, blocks_written, with_page as write_page}
use Rattle.fs_model.specs.Handles.{tree_written}
use Rattle.fs_model.specs.Making.{touched}
use Rattle.fs_model.specs.Proper.{is_inode_node}
use Rattle.page_cache.specs.declared.dirty_page.DirtyPage.{DirtyPage}
use Rattle.page_cache.specs.Pages.{Pages, is_page, dirty_at, put_last, with_dirty, with_all_dirty, new_pages, old_pages, IsTakenBack}
use Rattle.buffered_files.specs.declared.kept.Kept.{Kept}
use Rattle.buffered_files.specs.Present.{DirtyPages, with_page, with_inode, covered, present, has_dirty, IsKept, FitsClean, FitsFile, FitsOver, FitsPages, newly_dirty}
use Rattle.buffered_files.proofs.Clean.{all_dirtied}
use Rattle.buffered_files.proofs.Counts.{parts_count, all_none, some_put}
use Rattle.buffered_files.proofs.Covers.{page_cases, other_ends}
use Rattle.buffered_files.specs.Calls.{SureGoes}
use Rattle.buffered_files.specs.CallLaws.{Goes-none, Goes-then, Sure-none, Sure-then}
use Rattle.buffered_files.proofs.Inserts.{insert_under}
use Rattle.fs_laws.specs.Maps.{all_at, insert_ascends, set_here, set_other, key_cases}
use Rattle.buffered_files.proofs.Nodes.{written_block, written_ends, written_over, node_touched}
use Rattle.fs_laws.specs.Orders.{numbers}
use Rattle.buffered_files.proofs.Overlays.{numbered, step, parts_cover, same_steps}
use Rattle.buffered_files.proofs.Reading.{Reads-tree, Reads-then, seen, seen_kept, seen_below, seen_nodes, seen_over}

-- what holds of each page holds after one more
fits_put : (P : (ℕ × ℕ) × DirtyPage → Type 0) (dirty : DirtyPages) (k : ℕ × ℕ) (page : DirtyPage) → AllByRecursion P dirty → P (k, page) → AllByRecursion P (put_last dirty k page)
fits_put P dirty k page all one = by (is_some (lookup (is_page k) dirty))
  where
    set : (es : DirtyPages) → AllByRecursion P es → AllByRecursion P (set_value (is_page k) es page)
    set [] a = tt
    set (e ∷ es) a = either (page_cases k e.0) (set es a.1)
      where
        either : ((k ≡ e.0) × (is_page k e.0 ≡ true)) ⊎ ((k ≡ e.0 → ⊥) × (is_page k e.0 ≡ false)) → AllByRecursion P (set_value (is_page k) es page) → AllByRecursion P (set_value (is_page k) (e ∷ es) page)
        either (inl same) more = rw same.1 (subst (λ q. P (q, page)) same.0 one, a.1)
        either (inr other) more = rw other.1 (a.0, more)

    behind : (es : DirtyPages) → AllByRecursion P es → AllByRecursion P (es ++ (k, page) ∷ [])
    behind [] a = (one, tt)
    behind (e ∷ es) a = (a.0, behind es a.1)

    by : (b : Bool) → AllByRecursion P (cond b (set_value (is_page k) dirty page) (dirty ++ (k, page) ∷ []))
    by true = set dirty all
    by false = behind dirty all

fits_all : (P : (ℕ × ℕ) × DirtyPage → Type 0) (put : List (ℕ × List ℕ)) (pages : Pages) (ino : ℕ) → AllByRecursion P pages.dirty → AllByRecursion (λ p. (version : ℕ) → P ((ino, p.0), record { bytes = p.1; version = version })) put
    → AllByRecursion P (with_all_dirty pages ino put).dirty
fits_all P [] pages ino all each = all
fits_all P (p ∷ put) pages ino all each =
    let page : DirtyPage = record { bytes = p.1; version = (with_dirty pages ino p.0 p.1).calls } in
    fits_all P put (with_dirty pages ino p.0 p.1) ino (fits_put P pages.dirty (ino, p.0) page all (each.0 page.version)) each.1

-- some of a list
some_of : {X : Type 0} (P : X → Type 0) (test : X → Bool) (xs : List X) → AllByRecursion P xs → AllByRecursion P (filter test xs)
some_of P test [] all = tt
some_of P test (x ∷ xs) all = by (test x) (some_of P test xs all.1)
  where
    by : (b : Bool) → AllByRecursion P (filter test xs) → AllByRecursion P (cond b (x ∷ filter test xs) (filter test xs))
    by true more = (all.0, more)
    by false more = more

range_all : (Q : ℕ × List ℕ → Type 0) (ino : ℕ) (f : ℕ → List ℕ) (first count : ℕ) → ((p : ℕ) → first ≤ p → p < first + count → Q (p, f p)) → AllByRecursion Q (map (numbered ino f) (range_with_len first count))
range_all Q ino f first zero each = tt
range_all Q ino f first (suc count) each = (each first (omega arith) (omega arith), range_all Q ino f (first + 1) count (λ p low high. each p (omega (arith, low)) (omega (arith, high))))

-- dirty pages fit inodes of which one has grown
fits_grown : (inodes : Inodes) (ino : ℕ) (inode : Inode) (dirty : DirtyPages) → ((old : Inode) → lookup (is_at (nat_cmp ino)) inodes ≡ Some old → old.size ≤ inode.size) → AllByRecursion (FitsPages inodes) dirty → AllByRecursion (FitsPages (insert_entry nat_cmp inodes ino inode)) dirty
fits_grown inodes ino inode [] grows all = tt
fits_grown inodes ino inode (e ∷ dirty) grows all = (one (key_cases nat_cmp numbers e.0.0 ino), fits_grown inodes ino inode dirty grows all.1)
  where
    one : (e.0.0 ≡ ino) ⊎ (e.0.0 ≡ ino → ⊥) → FitsPages (insert_entry nat_cmp inodes ino inode) e
    one (inl same) =
        let found : lookup (is_at (nat_cmp e.0.0)) (insert_entry nat_cmp inodes ino inode) ≡ Some inode = ap (λ n. lookup (is_at (nat_cmp n)) (insert_entry nat_cmp inodes ino inode)) same ∙ set_here nat_cmp numbers inodes ino inode in
        let more = grows all.0.0 (ap (λ n. lookup (is_at (nat_cmp n)) inodes) (sym same) ∙ all.0.1) in
        let ends = all.0.3 in
        (inode, found, all.0.2, omega (arith, more, ends))
    one (inr other) = (all.0.0, set_other nat_cmp numbers inodes ino inode e.0.0 other ∙ all.0.1, all.0.2, all.0.3)

-- what is written: n copies of a byte from a place on, in a file of this inode and size, at this moment
pub record Writing (tree : Tree) (kept : Kept) (ino : ℕ) (inode : Inode) (size place n byte now : ℕ) : Type 0 where
  pub fits : IsKept tree kept
  pub once : IsDistinct is_page (keys_of kept.pages.dirty)
  pub seen : inode_at (present tree kept).tree ino ≡ Some inode
  pub file : inode.kind ≡ File
  pub sized : size ≡ size_of (present tree kept).tree ino inode
  pub some : 0 < n
  pub range : place + n ≤ 2199023255552
  pub low : ino < 4294967296
  pub below : byte < 256
  pub long : size < 18446744073709551616
  pub soon : now < 18446744073709551616

-- what is kept after it
abbrev pub written_pages : Tree → Kept → ℕ → ℕ → ℕ → ℕ → List (ℕ × List ℕ)
written_pages tree kept ino place n byte = map (λ page. (page, page_written (present tree kept).tree.blocks ino place n byte page)) (pages_of place n)

abbrev pub kept_written : Tree → Kept → ℕ → Inode → ℕ → ℕ → ℕ → ℕ → ℕ → Kept
kept_written tree kept ino inode size place n byte now = record kept {
  inodes = insert_entry nat_cmp kept.inodes ino (touched now (record inode { size = max size (place + n) }));
  pages = with_all_dirty (with_all_dirty kept.pages ino (new_pages kept.pages ino (written_pages tree kept ino place n byte))) ino (old_pages kept.pages ino (written_pages tree kept ino place n byte));
}

module _ (tree : Tree) (kept : Kept) (ino : ℕ) (inode : Inode) (size place n byte now : ℕ) (w : Writing tree kept ino inode size place n byte now) where
  abbrev f : ℕ → List ℕ
  f = page_written (seen tree kept) ino place n byte

  abbrev grown : Inode
  grown = touched now (record inode { size = max size (place + n) })

  pages_are : pages_of place n ≡ range_with_len (place / 4096) (suc ((place + n - 1) / 4096 - place / 4096))
  pages_are =
      let some = w.some in
      let more : eqb n 0 ≡ false = grind (arith, nat_tests) in
      rw more refl

  pub seen_written : present tree (kept_written tree kept ino inode size place n byte now) ≡ record (present tree kept) { tree = tree_written (present tree kept).tree ino inode now place n byte }
  seen_written =
      let i = insert_under nat_cmp numbers kept.inodes tree.inodes ino grown w.fits.ascends in
      let s : grown ≡ touched now (record inode { size = max (size_of (present tree kept).tree ino inode) (place + n) }) = ap (λ k. touched now (record inode { size = max k (place + n) })) w.sized in
      let b : fold with_page tree.blocks (kept_written tree kept ino inode size place n byte now).pages.dirty ≡ blocks_written (seen tree kept) ino place n byte =
      parts_cover ino f kept.pages tree.blocks (pages_of place n) w.once
      ∙ ap (λ ps. fold (step ino f) (seen tree kept) ps) pages_are
      ∙ same_steps ino place n byte (seen tree kept) (seen tree kept) (place / 4096) (suc ((place + n - 1) / 4096 - place / 4096)) (λ q h. refl)
      ∙ ap (λ ps. fold (write_page ino place n byte) (seen tree kept) ps) (sym pages_are) in
      let join : Inodes → Blocks → Files = λ inodes blocks. record { tree = record tree { inodes = inodes; blocks = blocks }; handles = kept.handles } in
      let inodes = fold with_inode tree.inodes kept.inodes in
      ap (λ x. join x (fold with_page tree.blocks (kept_written tree kept ino inode size place n byte now).pages.dirty)) i
      ∙ ap (λ x. join (insert_entry nat_cmp inodes ino grown) x) b
      ∙ ap (λ x. join (insert_entry nat_cmp inodes ino x) (blocks_written (seen tree kept) ino place n byte)) s

  pub count_written : length (kept_written tree kept ino inode size place n byte now).pages.dirty ≡ length kept.pages.dirty + newly_dirty kept.pages.dirty ino place n
  count_written =
      ap (λ ps. length (with_all_dirty (with_all_dirty kept.pages ino (new_pages kept.pages ino (map (numbered ino f) ps))) ino (old_pages kept.pages ino (map (numbered ino f) ps))).dirty) pages_are
      ∙ parts_count ino f kept.pages (place / 4096) (suc ((place + n - 1) / 4096 - place / 4096))
      ∙ ap (λ ps. length kept.pages.dirty + length (filter (λ page. not (is_some (lookup (is_page (ino, page)) kept.pages.dirty))) ps)) (sym pages_are)

  -- the inode that is kept, or the tree's
  below_is : (o : Option Inode) → lookup (is_at (nat_cmp ino)) kept.inodes ≡ o → FitsFile tree ino inode × (blocks_end tree.blocks ino ≤ size) × (blocks_end (seen tree kept) ino ≤ size) × (inode.size ≤ size)
  below_is (Some found) h =
      let both : Some found ≡ Some inode = sym (seen_kept tree kept ino found w.fits h) ∙ w.seen in
      let same : found ≡ inode = cc both in
      let there : lookup (is_at (nat_cmp ino)) kept.inodes ≡ Some inode = h ∙ ap (λ (i : Inode). Some i) same in
      let ends = w.fits.ends ino inode there in
      let s = w.sized in
      (w.fits.inodes ino inode there, omega (arith, ends, s), omega (arith, s), omega (arith, s))
  below_is None h =
      let there : inode_at tree ino ≡ Some inode = sym (seen_below tree kept ino w.fits h) ∙ w.seen in
      let ends = other_ends kept.inodes kept.pages.dirty tree.blocks ino h w.fits.pages in
      let s = w.sized in (
        record { node = all_at nat_cmp numbers is_inode_node tree.inodes ino inode w.fits.proper.inode_nodes there; kind = w.file; below = (inode, there, w.file, refl) },
        omega (arith, ends, s),
        omega (arith, s),
        omega (arith, s),
      )

  pub is_kept_written : IsKept tree (kept_written tree kept ino inode size place n byte now)
  is_kept_written =
      let known = below_is (lookup (is_at (nat_cmp ino)) kept.inodes) refl in
      let range = w.range in
      let long = w.long in
      record {
        proper = w.fits.proper;
        ascends = insert_ascends nat_cmp numbers kept.inodes ino grown w.fits.ascends;
        inodes = λ i found there. inodes_fit known.0 i found there (key_cases nat_cmp numbers i ino);
        ends = λ i found there. ends_fit known.1 i found there (key_cases nat_cmp numbers i ino);
        pages = fits_all P old (with_all_dirty kept.pages ino new) ino (fits_all P new kept.pages ino (fits_grown kept.inodes ino grown kept.pages.dirty (λ was found. grows known.3 was found) w.fits.pages) (some_of Q (λ page. not (is_some (dirty_at kept.pages ino page.0))) put (each known.2))) (some_of Q (λ page. is_some (dirty_at kept.pages ino page.0)) put (each known.2));
        settled = λ i found there none. settle i found there none (key_cases nat_cmp numbers i ino);
        clean = all_dirtied (FitsClean tree.blocks) old (with_all_dirty kept.pages ino new) ino (all_dirtied (FitsClean tree.blocks) new kept.pages ino w.fits.clean);
        covers = fits_all (FitsOver tree.blocks) old (with_all_dirty kept.pages ino new) ino (fits_all (FitsOver tree.blocks) new kept.pages ino w.fits.covers (some_of O (λ page. not (is_some (dirty_at kept.pages ino page.0))) put over)) (some_of O (λ page. is_some (dirty_at kept.pages ino page.0)) put over);
      }
    where
      put : List (ℕ × List ℕ)
      put = written_pages tree kept ino place n byte

      new : List (ℕ × List ℕ)
      new = new_pages kept.pages ino put

      old : List (ℕ × List ℕ)
      old = old_pages kept.pages ino put

      P : (ℕ × ℕ) × DirtyPage → Type 0
      P = FitsPages (insert_entry nat_cmp kept.inodes ino grown)

      Q : ℕ × List ℕ → Type 0
      Q p = (version : ℕ) → P ((ino, p.0), record { bytes = p.1; version = version })

      O : ℕ × List ℕ → Type 0
      O p = ℕ → length (block_at tree.blocks ino p.0) ≤ length p.1

      over : AllByRecursion O put
      over =
          let one : (p : ℕ) → place / 4096 ≤ p → p < place / 4096 + suc ((place + n - 1) / 4096 - place / 4096) → O (p, f p) = λ p low high version.
          let below = seen_over tree kept ino p w.fits w.once in
          let some = w.some in
          let more = written_over (seen tree kept) ino place n byte p (omega (arith, low, high, some)) (omega (arith, low)) in
          omega (arith, below, more) in
          subst (λ ps. AllByRecursion O (map (numbered ino f) ps)) (sym pages_are) (range_all O ino f (place / 4096) (suc ((place + n - 1) / 4096 - place / 4096)) one)

      grows : inode.size ≤ size → (was : Inode) → lookup (is_at (nat_cmp ino)) kept.inodes ≡ Some was → was.size ≤ grown.size
      grows less was found =
          let both : Some was ≡ Some inode = sym (seen_kept tree kept ino was w.fits found) ∙ w.seen in
          let same : was ≡ inode = cc both in
          let n = ap (λ (x : Inode). x.size) same in
          omega (arith, less, n)

      each : blocks_end (seen tree kept) ino ≤ size → AllByRecursion Q put
      each ends =
          let some = w.some in
          let one : (p : ℕ) → place / 4096 ≤ p → p < place / 4096 + suc ((place + n - 1) / 4096 - place / 4096) → Q (p, f p) = λ p low high version.
          let starts : 4096 * p < place + n = omega (arith, low, high, some) in
          let after : place < 4096 * (p + 1) = omega (arith, low) in (
            grown,
            set_here nat_cmp numbers kept.inodes ino grown,
            written_block (seen tree kept) ino place n byte p (seen_nodes tree kept w.fits) w.low w.below w.some w.range starts after,
            written_ends (seen tree kept) ino place n byte p (max size (place + n)) (omega (arith, ends)) (omega arith) starts after,
          ) in
          subst (λ ps. AllByRecursion Q (map (numbered ino f) ps)) (sym pages_are) (range_all Q ino f (place / 4096) (suc ((place + n - 1) / 4096 - place / 4096)) one)

      is_grown : (i : ℕ) (found : Inode) → lookup (is_at (nat_cmp i)) (insert_entry nat_cmp kept.inodes ino grown) ≡ Some found → i ≡ ino → grown ≡ found
      is_grown i found there same =
          let both : Some grown ≡ Some found = sym (set_here nat_cmp numbers kept.inodes ino grown) ∙ ap (λ k. lookup (is_at (nat_cmp k)) (insert_entry nat_cmp kept.inodes ino grown)) (sym same) ∙ there in
          cc both

      is_other : (i : ℕ) (found : Inode) → lookup (is_at (nat_cmp i)) (insert_entry nat_cmp kept.inodes ino grown) ≡ Some found → (i ≡ ino → ⊥) → lookup (is_at (nat_cmp i)) kept.inodes ≡ Some found
      is_other i found there other = sym (set_other nat_cmp numbers kept.inodes ino grown i other) ∙ there

      inodes_fit : FitsFile tree ino inode → (i : ℕ) (found : Inode) → lookup (is_at (nat_cmp i)) (insert_entry nat_cmp kept.inodes ino grown) ≡ Some found → (i ≡ ino) ⊎ (i ≡ ino → ⊥) → FitsFile tree i found
      inodes_fit fits i found there (inl same) =
          let r = w.range in
          let l = w.long in
          let node = node_touched ino now (max size (place + n)) inode fits.node w.soon (omega (arith, r, l)) in
          let whole : FitsFile tree ino grown = record { node = node; kind = fits.kind; below = fits.below } in
          subst (λ k. FitsFile tree k found) (sym same) (subst (λ x. FitsFile tree ino x) (is_grown i found there same) whole)
      inodes_fit fits i found there (inr other) = w.fits.inodes i found (is_other i found there other)

      ends_fit : blocks_end tree.blocks ino ≤ size → (i : ℕ) (found : Inode) → lookup (is_at (nat_cmp i)) (insert_entry nat_cmp kept.inodes ino grown) ≡ Some found → (i ≡ ino) ⊎ (i ≡ ino → ⊥) → blocks_end tree.blocks i ≤ found.size
      ends_fit ends i found there (inl same) =
          let whole : blocks_end tree.blocks ino ≤ grown.size = omega (arith, ends) in
          subst (λ k. blocks_end tree.blocks k ≤ found.size) (sym same) (subst (λ (x : Inode). blocks_end tree.blocks ino ≤ x.size) (is_grown i found there same) whole)
      ends_fit ends i found there (inr other) = w.fits.ends i found (is_other i found there other)

      settle : (i : ℕ) (found : Inode) → lookup (is_at (nat_cmp i)) (insert_entry nat_cmp kept.inodes ino grown) ≡ Some found → has_dirty (kept_written tree kept ino inode size place n byte now).pages.dirty i ≡ false → (i ≡ ino) ⊎ (i ≡ ino → ⊥) → inode_at tree i ≡ Some found
      settle i found there none (inl same) =
          let later = all_none old (with_all_dirty kept.pages ino new) ino i none in
          let sooner = all_none new kept.pages ino i later.0 in
          let rest = range_with_len (place / 4096 + 1) ((place + n - 1) / 4096 - place / 4096) in
          absurd (some_put ino f kept.pages (place / 4096) rest
          (ap (λ ps. new_pages kept.pages ino (map (numbered ino f) ps)) (sym pages_are) ∙ sooner.1 (sym same))
          (ap (λ ps. old_pages kept.pages ino (map (numbered ino f) ps)) (sym pages_are) ∙ later.1 (sym same)))
      settle i found there none (inr other) =
          let later = all_none old (with_all_dirty kept.pages ino new) ino i none in
          let sooner = all_none new kept.pages ino i later.0 in
          w.fits.settled i found (is_other i found there other) sooner.0

-- what is kept where nothing that counts has changed
pub same_kept : (tree : Tree) (kept after : Kept) → IsKept tree kept → after.inodes ≡ kept.inodes → after.pages.dirty ≡ kept.pages.dirty → AllByRecursion (FitsClean tree.blocks) after.pages.clean → IsKept tree after
same_kept tree kept after is i d clean = record {
  proper = is.proper;
  ascends = rw i is.ascends;
  inodes = λ ino inode found. is.inodes ino inode (rw i at found);
  ends = λ ino inode found. is.ends ino inode (rw i at found);
  pages = rw (i, d) is.pages;
  settled = λ ino inode found none. is.settled ino inode (rw i at found) (rw d at none);
  clean = clean;
  covers = rw d is.covers;
}

-- what holds after a write
pub record AfterWrite (old new : BackingState) (kept after : Kept) (ino : ℕ) (inode : Inode) (place n byte now : ℕ) : Type 0 where
  pub fits : IsKept new.tree after
  pub paid : length after.pages.dirty ≤ new.space.credits
  pub written : present new.tree after ≡ record (present old.tree kept) { tree = tree_written (present old.tree kept).tree ino inode now place n byte }
  pub count : length after.pages.dirty ≡ length kept.pages.dirty + newly_dirty kept.pages.dirty ino place n

pub after_write : (old new : BackingState) (kept after : Kept) (ino : ℕ) (inode : Inode) (size place n byte now : ℕ) → Reads old new → Writing old.tree kept ino inode size place n byte now → length kept.pages.dirty + newly_dirty kept.pages.dirty ino place n ≤ old.space.credits
    → after ≡ kept_written old.tree kept ino inode size place n byte now → AfterWrite old new kept after ino inode place n byte now
after_write old new kept after ino inode size place n byte now reads w paid is =
    let done = kept_written old.tree kept ino inode size place n byte now in
    let t = Reads-tree old new reads in
    let credits : new.space.credits ≡ old.space.credits = ap (λ (s : BackingState). s.space.credits) reads in
    let count = count_written old.tree kept ino inode size place n byte now w in
    let whole : AfterWrite old new kept done ino inode place n byte now = record {
      fits = subst (λ tree. IsKept tree done) (sym t) (is_kept_written old.tree kept ino inode size place n byte now w);
      paid = omega (arith, count, paid, credits);
      written = ap (λ tree. present tree done) t ∙ seen_written old.tree kept ino inode size place n byte now w;
      count = count;
    } in
    subst (λ k. AfterWrite old new kept k ino inode place n byte now) (sym is) whole

-- and after a fault
pub record AfterFault (old new : BackingState) (kept after : Kept) : Type 0 where
  pub fits : IsKept new.tree after
  pub paid : length after.pages.dirty ≤ new.space.credits
  pub same : present new.tree after ≡ present old.tree kept

pub after_fault : (old new : BackingState) (kept after : Kept) (ino more : ℕ) (put : List (ℕ × List ℕ)) → Reads old new → IsKept old.tree kept → length kept.pages.dirty + more ≤ old.space.credits → after.inodes ≡ kept.inodes → IsTakenBack kept.pages after.pages ino put → after.handles ≡ kept.handles → AfterFault old new kept after
after_fault old new kept after ino more put reads is paid i back h =
    let t = Reads-tree old new reads in
    let d : after.pages.dirty ≡ kept.pages.dirty = ap (λ (pages : Pages). pages.dirty) back.made in
    let credits : new.space.credits ≡ old.space.credits = ap (λ (s : BackingState). s.space.credits) reads in
    let count = ap (λ (dirty : DirtyPages). length dirty) d in
    let clean = subst (λ (pages : Pages). AllByRecursion (FitsClean old.tree.blocks) pages.clean) (sym back.made) (all_dirtied (FitsClean old.tree.blocks) back.first kept.pages ino is.clean) in
    record {
      fits = subst (λ tree. IsKept tree after) (sym t) (same_kept old.tree kept after is i d clean);
      paid = omega (arith, count, paid, credits);
      same = λ j. record { tree = covered (t j) (i j) (d j); handles = h j };
    }

-- nothing was put
pub none_taken : (pages : Pages) (ino : ℕ) (put : List (ℕ × List ℕ)) → IsTakenBack pages pages ino put
none_taken pages ino put = record { first = []; rest = new_pages pages ino put; split = refl; made = refl }

-- the pages that were written so far, and those that are left
pub record PagesSoFar (x y : Outlook) (old now : BackingState) (kept : Kept) (ino place n byte page end : ℕ) (out : List (ℕ × List ℕ)) : Type 0 where
  pub all : out ++ map (numbered ino (page_written (seen old.tree kept) ino place n byte)) (range_with_len page (end - page)) ≡ written_pages old.tree kept ino place n byte
  pub reads : Reads old now
  pub goes : Goes 0 old now
  pub sure : SureGoes x y old now

pub pages_begin : (x : Outlook) (old : BackingState) (kept : Kept) (ino place n byte : ℕ) (out : List (ℕ × List ℕ)) → 0 < n → out ≡ [] → PagesSoFar x x old old kept ino place n byte (place / 4096) ((place + n - 1) / 4096 + 1) out
pages_begin x old kept ino place n byte out some none =
    let more : eqb n 0 ≡ false = grind (arith, nat_tests) in
    let all : (place + n - 1) / 4096 + 1 - place / 4096 ≡ suc ((place + n - 1) / 4096 - place / 4096) = omega (arith, some) in
    record { all = rw (none, all, more) refl; reads = refl; goes = Goes-none old; sure = Sure-none x old }

pub pages_more : (x y z : Outlook) (old now next : BackingState) (kept : Kept) (ino place n byte page end : ℕ) (out new : List (ℕ × List ℕ)) (bytes : List ℕ) → PagesSoFar x y old now kept ino place n byte page end out → page < end
    → bytes ≡ page_written (seen now.tree kept) ino place n byte page → new ≡ out ++ (page, bytes) ∷ [] → Reads now next → Goes 0 now next → SureGoes y z now next → PagesSoFar x z old next kept ino place n byte (page + 1) end new
pages_more x y z old now next kept ino place n byte page end out new bytes so less told is reads goes sure =
    let f : ℕ → List ℕ = page_written (seen old.tree kept) ino place n byte in
    let more : end - page ≡ suc (end - (page + 1)) = omega (arith, less) in
    let t = Reads-tree old now so.reads in
    let b : bytes ≡ f page = told ∙ ap (λ tree. page_written (seen tree kept) ino place n byte page) t in
    let rest = map (numbered ino f) (range_with_len (page + 1) (end - (page + 1))) in
    record {
      all = ap (λ xs. xs ++ rest) (is ∙ ap (λ v. out ++ (page, v) ∷ []) b) ∙ append_assoc out ((page, f page) ∷ []) rest ∙ rw more at so.all;
      reads = Reads-then old now next so.reads reads;
      goes = Goes-then 0 0 old now next so.goes goes;
      sure = Sure-then x y z old now next so.sure sure;
    }

pub pages_end : (x y : Outlook) (old now : BackingState) (kept : Kept) (ino place n byte page end : ℕ) (out : List (ℕ × List ℕ)) → PagesSoFar x y old now kept ino place n byte page end out → end ≤ page → out ≡ written_pages old.tree kept ino place n byte
pages_end x y old now kept ino place n byte page end out so done =
    let none : end - page ≡ 0 = omega (arith, done) in
    sym (append-nil out) ∙ rw none at so.all

-- pages that were counted, and those that are left
pub record Counting (dirty : DirtyPages) (ino place n page end count : ℕ) : Type 0 where
  pub all : count + length (filter (λ p. not (is_some (lookup (is_page (ino, p)) dirty))) (range_with_len page (end - page))) ≡ newly_dirty dirty ino place n
  pub few : count ≤ page

pub counting_begins : (dirty : DirtyPages) (ino place n : ℕ) → 0 < n → Counting dirty ino place n (place / 4096) ((place + n - 1) / 4096 + 1) 0
counting_begins dirty ino place n some =
    let more : eqb n 0 ≡ false = grind (arith, nat_tests) in
    let all : (place + n - 1) / 4096 + 1 - place / 4096 ≡ suc ((place + n - 1) / 4096 - place / 4096) = omega (arith, some) in
    record { all = rw (all, more) (omega arith); few = omega arith }

pub counting_more : (dirty : DirtyPages) (ino place n page end count one : ℕ) → Counting dirty ino place n page end count → page < end → one ≡ cond (is_some (lookup (is_page (ino, page)) dirty)) 0 1 → Counting dirty ino place n (page + 1) end (count + one)
counting_more dirty ino place n page end count one so less is = by (is_some (lookup (is_page (ino, page)) dirty)) refl
  where
    rest : List ℕ
    rest = filter (λ p. not (is_some (lookup (is_page (ino, p)) dirty))) (range_with_len (page + 1) (end - (page + 1)))

    by : (b : Bool) → is_some (lookup (is_page (ino, page)) dirty) ≡ b → Counting dirty ino place n (page + 1) end (count + one)
    by true e =
        let more : end - page ≡ suc (end - (page + 1)) = omega (arith, less) in
        let all : count + length rest ≡ newly_dirty dirty ino place n = rw (more, e) at so.all in
        let zero_more : one ≡ 0 = rw e at is in
        let few = so.few in
        record { all = omega (arith, all, zero_more); few = omega (arith, few, zero_more) }
    by false e =
        let more : end - page ≡ suc (end - (page + 1)) = omega (arith, less) in
        let all : count + suc (length rest) ≡ newly_dirty dirty ino place n = rw (more, e) at so.all in
        let one_more : one ≡ 1 = rw e at is in
        let few = so.few in
        record { all = omega (arith, all, one_more); few = omega (arith, few, one_more) }

pub counting_ends : (dirty : DirtyPages) (ino place n page end count : ℕ) → Counting dirty ino place n page end count → end ≤ page → count ≡ newly_dirty dirty ino place n
counting_ends dirty ino place n page end count so done =
    let none : end - page ≡ 0 = omega (arith, done) in
    let all = rw none at so.all in
    omega (arith, all)

-- what is kept is what a write leaves
pub is_written : (tree : Tree) (kept after : Kept) (ino : ℕ) (inode : Inode) (size place n byte now : ℕ) (grown : Inode) (put : List (ℕ × List ℕ)) → after.inodes ≡ insert_entry nat_cmp kept.inodes ino grown → grown ≡ touched now (record inode { size = max size (place + n) })
    → after.pages ≡ with_all_dirty (with_all_dirty kept.pages ino (new_pages kept.pages ino put)) ino (old_pages kept.pages ino put) → put ≡ written_pages tree kept ino place n byte → after.handles ≡ kept.handles → after ≡ kept_written tree kept ino inode size place n byte now
is_written tree kept after ino inode size place n byte now grown put i g p l h =
    let inodes = i ∙ ap (λ (x : Inode). insert_entry nat_cmp kept.inodes ino x) g in
    let pages = p ∙ ap (λ (xs : List (ℕ × List ℕ)). with_all_dirty (with_all_dirty kept.pages ino (new_pages kept.pages ino xs)) ino (old_pages kept.pages ino xs)) l in
    λ j. record { pages = pages j; inodes = inodes j; handles = h j }

-- What a put leaves of what callers see.
use Rattle.std.proofs.Common.{◌≡◌, ℕ, ◌+◌, ◌-◌, ◌*◌, ◌≤◌, ◌⊎◌, inl, inr, length-append, length-drop, Bool, true, false, cond, max, ◌&&◌, List, [], ◌∷◌, ◌++◌, length, Some, refl, sym, ap, subst, ◌∙◌, arith}
use Rattle.std.specs.Prelude.{◌==◌, ◌||◌, IsTrue, IsNone, is_some, nat_le, Result, Ok, Err, IfOk, OnOk, Option, None, fold, replicate, slice_get, drop, not, nat_lt, zero, suc, unwrap_or}
use Rattle.std.specs.List.{list_all, AllByRecursion, IsDistinct}
use Rattle.std.specs.Option.{option_map, option_map_or}
use Rattle.std.specs.Map.{lookup, remove_entry, keys_of}
use Rattle.std.specs.BTreeMap.{insert_entry, is_at}
use Rattle.std.specs.Ordering.{nat_cmp}
use Rattle.std.proofs.lemmas.Bool.{and_parts, and_from, false≢true}
use Rattle.std.proofs.lemmas.Map.Keys.{IsDistinct-head, IsDistinct-tail}
use Rattle.std.proofs.lemmas.List.{length-replicate}
use Rattle.std.proofs.lemmas.List.Folds.{list_all-append}
use Rattle.std.proofs.lemmas.Bool.Decides.{nat_tests}
use Rattle.fs_model.specs.declared.inode.Inode.{Inode}
use Rattle.fs_model.specs.declared.inode.Kind.TheVariants.{File}
use Rattle.fs_model.specs.declared.page_node.PageNode.{PageNode}
use Rattle.buffered_files.specs.Alike.{IsAlike}
use Rattle.buffered_files.specs.Calls.{GrowsBy, SureGoes}
use Rattle.fs_model.specs.Backing.{BackingState, Outlook, Goes, page_group, IsPagePut}
use Rattle.fs_model.specs.Change.{apply}
use Rattle.fs_model.specs.Files.{Tree, Files, Blocks, inode_at, pair_cmp, with_block, blocks_end, size_of}
use Rattle.fs_model.specs.Path.{is_dir, is_empty}
use Rattle.fs_model.specs.Proper.{IsProper, is_block_node, are_bytes}
use Rattle.fs_model.specs.Same.{trimmed, before_zeros, trimmed_blocks}
use Rattle.fs_laws.specs.Sound.{IsFilePage}
use Rattle.page_cache.specs.Pages.{Pages, AreApart, is_page, dirty_at, oldest_of, ticket_of, is_current, without_dirty}
use Rattle.page_cache.specs.declared.dirty_page.DirtyPage.{DirtyPage}
use Rattle.page_cache.specs.declared.ticket.Ticket.{Ticket}
use Rattle.buffered_files.specs.declared.kept.Kept.{Kept}
use Rattle.buffered_files.specs.Present.{DirtyPages, with_page, present, has_dirty, IsKept, FitsClean, FitsFile, FitsOver, FitsPages, page_of, filled, bytes_before_end}
use Rattle.buffered_files.specs.CallLaws.{Goes-none, Goes-then, Sure-none, Sure-then}
use Rattle.buffered_files.specs.CutLaws.{Puts-none}
use Rattle.buffered_files.specs.Cuts.{PutsSeen, ValuesOf}
use Rattle.buffered_files.proofs.Cutting.{seen_then}
use Rattle.buffered_files.proofs.Clean.{all_found, all_removed, clean_put}
use Rattle.buffered_files.proofs.Covers.{other_ends, page_cases}
use Rattle.buffered_files.proofs.Ends.{insert_ends, insert_other_ends, filled_ends}
use Rattle.fs_laws.specs.Insertions.{insert_swap}
use Rattle.buffered_files.proofs.Inserts.{set_later, set_same}
use Rattle.buffered_files.proofs.Reading.{kept_size}
use Rattle.buffered_files.proofs.Trimmed.{trimmed-insert}
use Rattle.fs_laws.specs.Maps.{all_at, set_here, set_other, key_cases}
use Rattle.fs_laws.specs.Orders.{numbers, pairs}

-- zeros at the end are told of no bytes
trimmed-zeros : (n : ℕ) → trimmed (replicate n 0) ≡ []
trimmed-zeros zero = refl
trimmed-zeros (suc n) = rw (trimmed-zeros n) refl

pub trimmed-filled : (bytes : List ℕ) (n : ℕ) → trimmed (bytes ++ replicate n 0) ≡ trimmed bytes
trimmed-filled [] n = trimmed-zeros n
trimmed-filled (byte ∷ bytes) n = ap (λ z. before_zeros byte z) (trimmed-filled bytes n)

-- pages cover blocks that are the same alike
covered_alike : (dirty : DirtyPages) (a b : Blocks) → trimmed_blocks a ≡ trimmed_blocks b → trimmed_blocks (fold with_page a dirty) ≡ trimmed_blocks (fold with_page b dirty)
covered_alike [] a b h = h
covered_alike (e ∷ dirty) a b h =
    covered_alike dirty (with_page a e) (with_page b e)
    (trimmed-insert a e.0 e.1.bytes ∙ ap (λ z. insert_entry pair_cmp z e.0 (trimmed e.1.bytes)) h ∙ sym (trimmed-insert b e.0 e.1.bytes))

-- the page of a ticket, which is dirty at the ticket's version
pub record IsAt (pages : Pages) (ticket : Ticket) : Type 0 where
  pub page : DirtyPage
  pub found : dirty_at pages ticket.ino ticket.block ≡ Some page

pub at_ticket : (pages : Pages) (ticket : Ticket) → is_current pages ticket ≡ true → IsAt pages ticket
at_ticket pages ticket h = by (dirty_at pages ticket.ino ticket.block) refl h
  where
    by : (o : Option DirtyPage) → dirty_at pages ticket.ino ticket.block ≡ o → option_map_or (λ page. page.version == ticket.version) o false ≡ true → IsAt pages ticket
    by None found g = absurd cc
    by (Some page) found g = record { page = page; found = found }

-- the other dirty pages
abbrev pub left_of : Pages → Ticket → DirtyPages
left_of pages ticket = remove_entry (is_page (ticket.ino, ticket.block)) pages.dirty

same_page : (a : ℕ × ℕ) → is_page a a ≡ true
same_page a = grind (arith, nat_tests)

-- where one page is put under the others, all is as before
page_under : (dirty : DirtyPages) (blocks : Blocks) (k : ℕ × ℕ) (page : DirtyPage) → lookup (is_page k) dirty ≡ Some page → fold with_page (insert_entry pair_cmp blocks k page.bytes) (remove_entry (is_page k) dirty) ≡ fold with_page blocks dirty
page_under [] blocks k page found = absurd cc
page_under (e ∷ dirty) blocks k page found = by (λ there. page_under dirty (with_page blocks e) k page there) (page_cases k e.0)
  where
    More : Type 0
    More = lookup (is_page k) dirty ≡ Some page → fold with_page (insert_entry pair_cmp (with_page blocks e) k page.bytes) (remove_entry (is_page k) dirty) ≡ fold with_page (with_page blocks e) dirty

    by : More → ((k ≡ e.0) × (is_page k e.0 ≡ true)) ⊎ ((k ≡ e.0 → ⊥) × (is_page k e.0 ≡ false)) → fold with_page (insert_entry pair_cmp blocks k page.bytes) (remove_entry (is_page k) (e ∷ dirty)) ≡ fold with_page (with_page blocks e) dirty
    by more (inl same) =
        let one : Some e.1 ≡ Some page = rw same.1 at found in
        let value : page ≡ e.1 = sym (cc one) in
        rw same.1 (ap (λ (p : DirtyPage). fold with_page (insert_entry pair_cmp blocks k p.bytes) dirty) value ∙ ap (λ q. fold with_page (insert_entry pair_cmp blocks q e.1.bytes) dirty) same.0)
    by more (inr other) =
        rw other.1
        (ap (λ b. fold with_page b (remove_entry (is_page k) dirty)) (insert_swap pair_cmp pairs blocks k e.0 page.bytes e.1.bytes other.0)
        ∙ more (rw other.1 at found))

-- one dirty page goes
one_fewer : (dirty : DirtyPages) (k : ℕ × ℕ) (page : DirtyPage) → lookup (is_page k) dirty ≡ Some page → length dirty ≡ suc (length (remove_entry (is_page k) dirty))
one_fewer [] k page found = absurd cc
one_fewer (e ∷ dirty) k page found = by (λ there. one_fewer dirty k page there) (is_page k e.0) refl
  where
    by : (lookup (is_page k) dirty ≡ Some page → length dirty ≡ suc (length (remove_entry (is_page k) dirty))) → (b : Bool) → is_page k e.0 ≡ b → length (e ∷ dirty) ≡ suc (length (remove_entry (is_page k) (e ∷ dirty)))
    by more true t = rw t refl
    by more false t = rw t (ap suc (more (rw t at found)))

-- another inode has as many
others_dirty : (dirty : DirtyPages) (k : ℕ × ℕ) (ino : ℕ) → (k.0 == ino) ≡ false → has_dirty (remove_entry (is_page k) dirty) ino ≡ has_dirty dirty ino
others_dirty [] k ino other = refl
others_dirty (e ∷ dirty) k ino other = by (others_dirty dirty k ino other) (page_cases k e.0)
  where
    by : has_dirty (remove_entry (is_page k) dirty) ino ≡ has_dirty dirty ino → ((k ≡ e.0) × (is_page k e.0 ≡ true)) ⊎ ((k ≡ e.0 → ⊥) × (is_page k e.0 ≡ false)) → has_dirty (remove_entry (is_page k) (e ∷ dirty)) ino ≡ has_dirty (e ∷ dirty) ino
    by more (inl same) =
        let gone : (e.0.0 == ino) ≡ false = subst (λ q. (q.0 == ino) ≡ false) same.0 other in
        rw (same.1, gone) refl
    by more (inr two) = rw two.1 (ap (λ b. (e.0.0 == ino) || b) more)

-- numbers that differ
differ : (a b : ℕ) → (a ≡ b → ⊥) → (a == b) ≡ false
differ a b h = by (a == b) refl
  where
    by : (t : Bool) → (a == b) ≡ t → t ≡ false
    by true e = absurd (h (grind (arith, nat_tests)))
    by false e = refl

-- a number that an inode has isn't above the highest
pub numbered : (tree : Tree) (ino : ℕ) (inode : Inode) → IsProper tree → inode_at tree ino ≡ Some inode → ino ≤ tree.highest
numbered tree ino inode proper found =
    let parts = and_parts (list_all (λ e. nat_le e.0 tree.highest) tree.inodes && list_all (λ e. nat_le e.0.0 tree.highest) tree.blocks) (list_all (λ e. nat_le e.0.0 tree.highest && nat_le e.1.ino tree.highest) tree.entries) proper.numbers in
    let more = and_parts (list_all (λ e. nat_le e.0 tree.highest) tree.inodes) (list_all (λ e. nat_le e.0.0 tree.highest) tree.blocks) parts.0 in
    let le : nat_le ino tree.highest ≡ true = all_at nat_cmp numbers (λ e. nat_le e.0 tree.highest) tree.inodes ino inode more.0 found in
    grind (arith, nat_tests)

-- the tree once a page of a file that is there was put
pub put_tree : (tree : Tree) (page : PageNode) (old : Inode) → IsProper tree → inode_at tree page.ino ≡ Some old
    → apply tree (page_group page) ≡ record tree { inodes = insert_entry nat_cmp tree.inodes page.ino page.inode; blocks = with_block tree.blocks page.ino page.block page.bytes }
put_tree tree page old proper found =
    let here = set_here nat_cmp numbers tree.inodes page.ino page.inode in
    let le = numbered tree page.ino old proper found in
    let m : max (max tree.highest page.ino) page.ino ≡ tree.highest = omega (arith, le) in
    rw (here, m) refl

-- what is kept once its first page was put
abbrev pub kept_after : Kept → DirtyPages → Kept
kept_after kept rest = record kept { pages = record kept.pages { dirty = rest } }

-- a page that is put, with what is known of it and of what is kept
pub record Putting (tree : Tree) (kept : Kept) (ticket : Ticket) (o : IsAt kept.pages ticket) : Type 0 where
  pub inode : Inode
  pub found : lookup (is_at (nat_cmp ticket.ino)) kept.inodes ≡ Some inode
  pub fits : FitsFile tree ticket.ino inode
  pub block : IsTrue (is_block_node ((ticket.ino, ticket.block), o.page.bytes))
  pub inside : 4096 * ticket.block + length o.page.bytes ≤ inode.size
  pub others : AllByRecursion (FitsPages kept.inodes) (left_of kept.pages ticket)

pub putting_of : (tree : Tree) (kept : Kept) (ticket : Ticket) (o : IsAt kept.pages ticket) → IsKept tree kept → Putting tree kept ticket o
putting_of tree kept ticket o is =
    let one = all_found (FitsPages kept.inodes) (ticket.ino, ticket.block) o.page kept.pages.dirty is.pages o.found in
    record {
      inode = one.0;
      found = one.1;
      fits = is.inodes ticket.ino one.0 one.1;
      block = one.2;
      inside = one.3;
      others = all_removed (FitsPages kept.inodes) (is_page (ticket.ino, ticket.block)) kept.pages.dirty is.pages;
    }

-- a page that stands once stands nowhere once it is gone
gone_named : (dirty : DirtyPages) (k : ℕ × ℕ) (page : DirtyPage) → IsDistinct is_page (keys_of dirty) → lookup (is_page k) dirty ≡ Some page → AllByRecursion (λ y. is_page k y ≡ false) (keys_of (remove_entry (is_page k) dirty))
gone_named [] k page once found = absurd cc
gone_named (e ∷ dirty) k page once found = by (λ there. gone_named dirty k page (IsDistinct-tail is_page e.0 (keys_of dirty) once) there) (page_cases k e.0)
  where
    by : (lookup (is_page k) dirty ≡ Some page → AllByRecursion (λ y. is_page k y ≡ false) (keys_of (remove_entry (is_page k) dirty))) → ((k ≡ e.0) × (is_page k e.0 ≡ true)) ⊎ ((k ≡ e.0 → ⊥) × (is_page k e.0 ≡ false))
        → AllByRecursion (λ y. is_page k y ≡ false) (keys_of (remove_entry (is_page k) (e ∷ dirty)))
    by more (inl same) = rw same.1 (subst (λ q. AllByRecursion (λ y. is_page q y ≡ false) (keys_of dirty)) (sym same.0) (IsDistinct-head is_page e.0 (keys_of dirty) once))
    by more (inr other) = rw other.1 (other.1, more (rw other.1 at found))

-- dirty pages are no shorter than their blocks where another block is set
pub over_put : (blocks : Blocks) (k : ℕ × ℕ) (bytes : List ℕ) (dirty : DirtyPages) → AllByRecursion (FitsOver blocks) dirty → AllByRecursion (λ y. is_page k y ≡ false) (keys_of dirty) → AllByRecursion (FitsOver (insert_entry pair_cmp blocks k bytes)) dirty
over_put blocks k bytes [] all apart = tt
over_put blocks k bytes (e ∷ dirty) all apart = (
  subst (λ o. length (unwrap_or o []) ≤ length e.1.bytes) (sym (set_other pair_cmp pairs blocks k bytes e.0 (other (page_cases k e.0)))) all.0,
  over_put blocks k bytes dirty all.1 apart.1,
)
  where
    other : ((k ≡ e.0) × (is_page k e.0 ≡ true)) ⊎ ((k ≡ e.0 → ⊥) × (is_page k e.0 ≡ false)) → e.0 ≡ k → ⊥
    other (inl same) = absurd (false≢true (sym apart.0 ∙ same.1))
    other (inr two) = λ same. two.0 (sym same)

-- what is kept fits the tree after the put
pub kept_still : (tree : Tree) (kept : Kept) (ticket : Ticket) (o : IsAt kept.pages ticket) (p : Putting tree kept ticket o) → IsKept tree kept → AreApart kept.pages.dirty kept.pages.clean → IsDistinct is_page (keys_of kept.pages.dirty)
    → IsProper (apply tree (page_group (page_of ((ticket.ino, ticket.block), o.page) p.inode)))
    → IsKept (apply tree (page_group (page_of ((ticket.ino, ticket.block), o.page) p.inode))) (kept_after kept (left_of kept.pages ticket))
kept_still tree kept ticket o p is apart once proper = record {
  proper = proper;
  ascends = is.ascends;
  inodes = λ ino inode found. fits_still ino inode found (key_cases nat_cmp numbers ino ticket.ino);
  ends = λ ino inode found. ends_still ino inode found;
  pages = p.others;
  settled = λ ino inode found none. settled_still ino inode found none (key_cases nat_cmp numbers ino ticket.ino);
  clean = clean_still;
  covers = covers_still;
}
  where
    after : Tree
    after = apply tree (page_group (page_of ((ticket.ino, ticket.block), o.page) p.inode))

    at : (ino : ℕ) → inode_at after ino ≡ lookup (is_at (nat_cmp ino)) (insert_entry nat_cmp tree.inodes ticket.ino p.inode)
    at ino = ap (λ t. inode_at t ino) (put_tree tree (page_of ((ticket.ino, ticket.block), o.page) p.inode) p.fits.below.0 is.proper p.fits.below.1)

    here : (ino : ℕ) (inode : Inode) → lookup (is_at (nat_cmp ino)) kept.inodes ≡ Some inode → ino ≡ ticket.ino → inode_at after ino ≡ Some inode
    here ino inode found same = ap (λ n. inode_at after n) same ∙ at ticket.ino ∙ set_here nat_cmp numbers tree.inodes ticket.ino p.inode ∙ sym (sym found ∙ ap (λ n. lookup (is_at (nat_cmp n)) kept.inodes) same ∙ p.found)

    there : (ino : ℕ) → (ino ≡ ticket.ino → ⊥) → inode_at after ino ≡ inode_at tree ino
    there ino other = at ino ∙ set_other nat_cmp numbers tree.inodes ticket.ino p.inode ino other

    ends_still : (ino : ℕ) (inode : Inode) → lookup (is_at (nat_cmp ino)) kept.inodes ≡ Some inode → blocks_end after.blocks ino ≤ inode.size
    ends_still ino inode found =
        let page = page_of ((ticket.ino, ticket.block), o.page) p.inode in
        let t = ap (λ q. q.blocks) (put_tree tree page p.fits.below.0 is.proper p.fits.below.1) in
        let P : Blocks → Type 0 = λ blocks. blocks_end blocks ino ≤ inode.size in
        subst P (sym t) (insert_ends tree.blocks (ticket.ino, ticket.block) page.bytes ino inode.size (is.ends ino inode found)
        (λ same. let one : Some p.inode ≡ Some inode = sym p.found ∙ ap (λ n. lookup (is_at (nat_cmp n)) kept.inodes) same ∙ found in
        let alike : p.inode ≡ inode = cc one in
        subst (λ i. 4096 * ticket.block + length page.bytes ≤ i.size) alike (filled_ends o.page.bytes ticket.block p.inode.size p.inside)))

    settled_still : (ino : ℕ) (inode : Inode) → lookup (is_at (nat_cmp ino)) kept.inodes ≡ Some inode → has_dirty (left_of kept.pages ticket) ino ≡ false → (ino ≡ ticket.ino) ⊎ (ino ≡ ticket.ino → ⊥) → inode_at after ino ≡ Some inode
    settled_still ino inode found none (inl same) = here ino inode found same
    settled_still ino inode found none (inr other) =
        let none_before : has_dirty kept.pages.dirty ino ≡ false = sym (others_dirty kept.pages.dirty (ticket.ino, ticket.block) ino (differ ticket.ino ino (λ e. other (sym e)))) ∙ none in
        there ino other ∙ is.settled ino inode found none_before

    clean_still : AllByRecursion (FitsClean after.blocks) kept.pages.clean
    clean_still =
        let page = page_of ((ticket.ino, ticket.block), o.page) p.inode in
        let t = ap (λ q. q.blocks) (put_tree tree page p.fits.below.0 is.proper p.fits.below.1) in
        let P : Blocks → Type 0 = λ blocks. AllByRecursion (FitsClean blocks) kept.pages.clean in
        let none : lookup (is_page (ticket.ino, ticket.block)) kept.pages.clean ≡ None = absent (lookup (is_page (ticket.ino, ticket.block)) kept.pages.clean) (apart ticket.ino ticket.block (ap is_some o.found)) in
        subst P (sym t) (clean_put tree.blocks (ticket.ino, ticket.block) page.bytes kept.pages.clean none is.clean)
      where
        absent : (found : Option (List ℕ)) → IsNone found → found ≡ None
        absent None none = refl
        absent (Some bytes) none = absurd cc

    covers_still : AllByRecursion (FitsOver after.blocks) (left_of kept.pages ticket)
    covers_still =
        let page = page_of ((ticket.ino, ticket.block), o.page) p.inode in
        let t = ap (λ q. q.blocks) (put_tree tree page p.fits.below.0 is.proper p.fits.below.1) in
        let P : Blocks → Type 0 = λ blocks. AllByRecursion (FitsOver blocks) (left_of kept.pages ticket) in
        let left = all_removed (FitsOver tree.blocks) (is_page (ticket.ino, ticket.block)) kept.pages.dirty is.covers in
        subst P (sym t) (over_put tree.blocks (ticket.ino, ticket.block) page.bytes (left_of kept.pages ticket) left (gone_named kept.pages.dirty (ticket.ino, ticket.block) o.page once o.found))

    fits_still : (ino : ℕ) (inode : Inode) → lookup (is_at (nat_cmp ino)) kept.inodes ≡ Some inode → (ino ≡ ticket.ino) ⊎ (ino ≡ ticket.ino → ⊥) → FitsFile after ino inode
    fits_still ino inode found (inl same) =
        let fits = is.inodes ino inode found in
        record { node = fits.node; kind = fits.kind; below = (inode, here ino inode found same, fits.kind, refl) }
    fits_still ino inode found (inr other) =
        let fits = is.inodes ino inode found in
        record { node = fits.node; kind = fits.kind; below = (fits.below.0, there ino other ∙ fits.below.1, fits.below.2, fits.below.3) }

-- a file has the size that it had, where its inode is kept still, or none of its pages was put
sizes_after : (tree after : Tree) (kept : Kept) (rest : DirtyPages) → IsKept tree kept → IsKept after (kept_after kept rest) → (present tree kept).tree.inodes ≡ (present after (kept_after kept rest)).tree.inodes
    → ((ino : ℕ) → lookup (is_at (nat_cmp ino)) kept.inodes ≡ None → blocks_end after.blocks ino ≡ blocks_end tree.blocks ino)
    → (ino : ℕ) (inode : Inode) → inode_at (present tree kept).tree ino ≡ Some inode → is_dir inode.kind ≡ false → size_of (present tree kept).tree ino inode ≡ size_of (present after (kept_after kept rest)).tree ino inode
sizes_after tree after kept rest is still same others ino inode seen plain = by (lookup (is_at (nat_cmp ino)) kept.inodes) refl
  where
    by : (o : Option Inode) → lookup (is_at (nat_cmp ino)) kept.inodes ≡ o → size_of (present tree kept).tree ino inode ≡ size_of (present after (kept_after kept rest)).tree ino inode
    by (Some found) there =
        let later : inode_at (present after (kept_after kept rest)).tree ino ≡ Some inode = subst (λ inodes. lookup (is_at (nat_cmp ino)) inodes ≡ Some inode) same seen in
        sym (kept_size tree kept ino inode found is seen there) ∙ kept_size after (kept_after kept rest) ino inode found still later there
    by None none =
        let a = other_ends kept.inodes kept.pages.dirty tree.blocks ino none is.pages in
        let b = other_ends kept.inodes rest after.blocks ino none still.pages in
        ap (λ n. max inode.size n) (a ∙ sym (others ino none) ∙ sym b)

-- callers see the same after the put
pub same_after : (tree : Tree) (kept : Kept) (ticket : Ticket) (o : IsAt kept.pages ticket) (p : Putting tree kept ticket o) → IsKept tree kept → IsKept (apply tree (page_group (page_of ((ticket.ino, ticket.block), o.page) p.inode))) (kept_after kept (left_of kept.pages ticket))
    → IsAlike (present tree kept) (present (apply tree (page_group (page_of ((ticket.ino, ticket.block), o.page) p.inode))) (kept_after kept (left_of kept.pages ticket)))
same_after tree kept ticket o p is still =
    let page = page_of ((ticket.ino, ticket.block), o.page) p.inode in
    let len = bytes_before_end p.inode.size ticket.block in
    let t = put_tree tree page p.fits.below.0 is.proper p.fits.below.1 in
    let P : Tree → Type 0 = λ after. IsKept after (kept_after kept (left_of kept.pages ticket)) → IsAlike (present tree kept) (present after (kept_after kept (left_of kept.pages ticket))) in
    let inodes = sym (set_later nat_cmp numbers kept.inodes tree.inodes ticket.ino p.inode is.ascends p.found) in
    let put : Tree = record tree { inodes = insert_entry nat_cmp tree.inodes ticket.ino p.inode; blocks = with_block tree.blocks ticket.ino ticket.block page.bytes } in
    subst P (sym t)
    (λ fits. record {
      inodes = inodes;
      blocks = ap trimmed_blocks (sym (page_under kept.pages.dirty tree.blocks (ticket.ino, ticket.block) o.page o.found)) ∙ covered_alike (left_of kept.pages ticket) (insert_entry pair_cmp tree.blocks (ticket.ino, ticket.block) o.page.bytes) (insert_entry pair_cmp tree.blocks (ticket.ino, ticket.block) (filled o.page.bytes len))
          (trimmed-insert tree.blocks (ticket.ino, ticket.block) o.page.bytes
          ∙ ap (λ z. insert_entry pair_cmp (trimmed_blocks tree.blocks) (ticket.ino, ticket.block) z) (sym (trimmed-filled o.page.bytes (len - length o.page.bytes)))
          ∙ sym (trimmed-insert tree.blocks (ticket.ino, ticket.block) (filled o.page.bytes len)));
      entries = refl;
      highest = refl;
      handles = refl;
      sizes = sizes_after tree put kept (left_of kept.pages ticket) is fits inodes (λ ino none. insert_other_ends tree.blocks (ticket.ino, ticket.block) page.bytes ino (λ e. other ino none e));
    })
    still
  where
    other : (ino : ℕ) → lookup (is_at (nat_cmp ino)) kept.inodes ≡ None → ticket.ino ≡ ino → ⊥
    other ino none e = let some : lookup (is_at (nat_cmp ino)) kept.inodes ≡ Some p.inode = ap (λ n. lookup (is_at (nat_cmp n)) kept.inodes) (sym e) ∙ p.found in absurd cc

-- what marking it clean leaves
pub cleaned : (pages new : Pages) (ticket : Ticket) (result : Bool) → is_current pages ticket ≡ true → result ≡ is_current pages ticket → new ≡ cond result (without_dirty pages ticket.ino ticket.block) pages → new ≡ without_dirty pages ticket.ino ticket.block
cleaned pages new ticket result current r n = let t : result ≡ true = r ∙ current in rw t at n

-- what is known of the page that became dirty first
pub record Oldest (pages : Pages) (ticket : Ticket) : Type 0 where
  pub some : nat_lt 0 (length pages.dirty) ≡ true
  pub current : is_current pages ticket ≡ true
  pub left : left_of pages ticket ≡ drop 1 pages.dirty

pub oldest_is : (pages : Pages) (ticket : Ticket) → oldest_of pages ≡ Some ticket → Oldest pages ticket
oldest_is pages ticket h = by pages.dirty h
  where
    same_number : (n : ℕ) → (n == n) ≡ true
    same_number n = grind (arith, nat_tests)

    some_there : (rest : DirtyPages) → nat_lt 0 (suc (length rest)) ≡ true
    some_there rest = grind (arith, nat_tests)

    Told : DirtyPages → Ticket → Type 0
    Told dirty t = (nat_lt 0 (length dirty) ≡ true) × (option_map_or (λ (page : DirtyPage). page.version == t.version) (lookup (is_page (t.ino, t.block)) dirty) false ≡ true) × (remove_entry (is_page (t.ino, t.block)) dirty ≡ drop 1 dirty)

    told : (dirty : DirtyPages) → option_map ticket_of (slice_get dirty 0) ≡ Some ticket → Told dirty ticket
    told [] g = absurd cc
    told (e ∷ rest) g =
        let t : ticket_of e ≡ ticket = cc g in
        subst (Told (e ∷ rest)) t (some_there rest, rw (same_page e.0) (same_number e.1.version), rw (same_page e.0) refl)

    by : (dirty : DirtyPages) → option_map ticket_of (slice_get pages.dirty 0) ≡ Some ticket → Oldest pages ticket
    by dirty g = let it = told pages.dirty g in record { some = it.0; current = it.1; left = it.2 }

-- what was put is the page that became dirty first
pub oldest_put : {E : Type 0} (r : Result Bool E) (pages new : Pages) (ticket : Ticket) → oldest_of pages ≡ Some ticket → IfOk r (λ put. put ≡ is_current pages ticket) → IfOk r (λ put. put ≡ nat_lt 0 (length pages.dirty))
oldest_put (Err e) pages new ticket h told = tt
oldest_put (Ok put) pages new ticket h told = let o = oldest_is pages ticket h in told ∙ o.current ∙ sym o.some

pub oldest_left : {E : Type 0} (r : Result Bool E) (pages new : Pages) (ticket : Ticket) → oldest_of pages ≡ Some ticket → IfOk r (λ put. put ≡ is_current pages ticket) → IfOk r (λ put. new ≡ cond put (without_dirty pages ticket.ino ticket.block) pages) → OnOk r (new.dirty ≡ drop 1 pages.dirty)
oldest_left (Err e) pages new ticket h told is = tt
oldest_left (Ok put) pages new ticket h told is =
    let o = oldest_is pages ticket h in
    let t : put ≡ true = told ∙ o.current in
    ap (λ (p : Pages). p.dirty) (rw t at is) ∙ o.left

-- no page is dirty
pub none_dirty : (pages : Pages) → oldest_of pages ≡ None → false ≡ nat_lt 0 (length pages.dirty)
none_dirty pages h = by pages.dirty h
  where
    by : (dirty : DirtyPages) → option_map {U = Ticket} (λ e. record { ino = e.0.0; block = e.0.1; version = e.1.version }) (slice_get dirty 0) ≡ None → false ≡ nat_lt 0 (length dirty)
    by [] g = refl
    by (e ∷ rest) g = absurd cc

-- what holds once a page was put
pub record AfterPut (old new : BackingState) (kept after : Kept) : Type 0 where
  pub fits : IsKept new.tree after
  pub same : IsAlike (present old.tree kept) (present new.tree after)
  pub paid : length kept.pages.dirty ≤ old.space.credits → length after.pages.dirty ≤ new.space.credits
  pub issued : new.space.credits + length kept.pages.dirty ≡ old.space.credits + length after.pages.dirty

pub after_put : (old new : BackingState) (kept : Kept) (pages : Pages) (ticket : Ticket) (page : PageNode) (o : IsAt kept.pages ticket) (p : Putting old.tree kept ticket o) → IsKept old.tree kept → AreApart kept.pages.dirty kept.pages.clean → IsDistinct is_page (keys_of kept.pages.dirty)
    → page ≡ page_of ((ticket.ino, ticket.block), o.page) p.inode → IsPagePut old new page → IsProper (apply old.tree (page_group page)) → pages ≡ without_dirty kept.pages ticket.ino ticket.block
    → AfterPut old new kept (record kept { pages = pages })
after_put old new kept pages ticket page o p is apart once shown put proper left =
    let made = page_of ((ticket.ino, ticket.block), o.page) p.inode in
    let t : new.tree ≡ apply old.tree (page_group made) = put.tree ∙ ap (λ q. apply old.tree (page_group q)) shown in
    let whole : IsProper (apply old.tree (page_group made)) = subst (λ q. IsProper (apply old.tree (page_group q))) shown proper in
    let k : IsKept new.tree (kept_after kept (left_of kept.pages ticket)) = subst (λ tree. IsKept tree (kept_after kept (left_of kept.pages ticket))) (sym t) (kept_still old.tree kept ticket o p is apart once whole) in
    let s : IsAlike (present old.tree kept) (present new.tree (kept_after kept (left_of kept.pages ticket))) = subst (λ tree. IsAlike (present old.tree kept) (present tree (kept_after kept (left_of kept.pages ticket)))) (sym t) (same_after old.tree kept ticket o p is (kept_still old.tree kept ticket o p is apart once whole)) in
    let n : length kept.pages.dirty ≡ suc (length (left_of kept.pages ticket)) = one_fewer kept.pages.dirty (ticket.ino, ticket.block) o.page o.found in
    let spent = put.credits in
    let whole_after : AfterPut old new kept (kept_after kept (left_of kept.pages ticket)) = record { fits = k; same = s; paid = λ le. omega (arith, le, n, spent); issued = omega (arith, n, spent) } in
    subst (λ q. AfterPut old new kept (record kept { pages = q })) (sym left) whole_after

filled_length : (bytes : List ℕ) (len : ℕ) → length bytes ≤ 4096 → len ≤ 4096 → length (filled bytes len) ≤ 4096
filled_length bytes len a b =
    let n = length-append bytes (replicate (len - length bytes) 0) in
    let m = length-replicate {A = ℕ} (len - length bytes) 0 in
    omega (arith, a, b, n, m)

zeros_are_bytes : (n : ℕ) → are_bytes (replicate n 0) ≡ true
zeros_are_bytes zero = refl
zeros_are_bytes (suc n) = zeros_are_bytes n

filled_bytes : (bytes : List ℕ) (len : ℕ) → are_bytes bytes ≡ true → are_bytes (filled bytes len) ≡ true
filled_bytes bytes len h = list_all-append (λ b. nat_lt b 256) bytes (replicate (len - length bytes) 0) ∙ and_from (are_bytes bytes) (are_bytes (replicate (len - length bytes) 0)) h (zeros_are_bytes (len - length bytes))

filled_some : (bytes : List ℕ) (len : ℕ) → not (is_empty bytes) ≡ true → not (is_empty (filled bytes len)) ≡ true
filled_some [] len h = absurd cc
filled_some (b ∷ bytes) len h = refl

pub le_from : (a b : ℕ) → a ≤ b → nat_le a b ≡ true
le_from a b h = grind (arith, nat_tests)

le_to : (a b : ℕ) → nat_le a b ≡ true → a ≤ b
le_to a b h = grind (arith, nat_tests)

-- a page up to its file's end is a block
pub filled_block : (k : ℕ × ℕ) (bytes : List ℕ) (size : ℕ) → is_block_node (k, bytes) ≡ true → is_block_node (k, filled bytes (bytes_before_end size k.1)) ≡ true
filled_block k bytes size h =
    let len = bytes_before_end size k.1 in
    let a = and_parts (nat_lt k.0 4294967296 && nat_lt k.1 536870912 && not (is_empty bytes) && nat_le (length bytes) 4096) (are_bytes bytes) h in
    let b = and_parts (nat_lt k.0 4294967296 && nat_lt k.1 536870912 && not (is_empty bytes)) (nat_le (length bytes) 4096) a.0 in
    let d = and_parts (nat_lt k.0 4294967296 && nat_lt k.1 536870912) (not (is_empty bytes)) b.0 in
    let short : len ≤ 4096 = omega arith in
    let long = filled_length bytes len (le_to (length bytes) 4096 b.1) short in
    and_from (nat_lt k.0 4294967296 && nat_lt k.1 536870912 && not (is_empty (filled bytes len)) && nat_le (length (filled bytes len)) 4096) (are_bytes (filled bytes len))
    (and_from (nat_lt k.0 4294967296 && nat_lt k.1 536870912 && not (is_empty (filled bytes len))) (nat_le (length (filled bytes len)) 4096)
    (and_from (nat_lt k.0 4294967296 && nat_lt k.1 536870912) (not (is_empty (filled bytes len))) d.0 (filled_some bytes len d.1))
    (le_from (length (filled bytes len)) 4096 long))
    (filled_bytes bytes len a.1)

-- without a dirty page the inodes that are kept are those of the tree
pub let_go : (tree : Tree) (kept : Kept) → IsKept tree kept → kept.pages.dirty ≡ [] → present tree (record kept { inodes = [] }) ≡ present tree kept
let_go tree kept is none =
    let same = set_same nat_cmp numbers kept.inodes tree.inodes is.proper.inodes_ascend is.ascends (λ ino inode found. is.settled ino inode found (rw none refl)) in
    ap (λ inodes. record { tree = record tree { inodes = inodes; blocks = fold with_page tree.blocks kept.pages.dirty }; handles = kept.handles }) (sym same)

pub let_go_still : (tree : Tree) (kept : Kept) → IsKept tree kept → kept.pages.dirty ≡ [] → IsKept tree (record kept { inodes = [] })
let_go_still tree kept is none = record {
  proper = is.proper;
  ascends = refl;
  inodes = λ ino inode found. absurd cc;
  ends = λ ino inode found. absurd cc;
  pages = rw none tt;
  settled = λ ino inode found no. absurd cc;
  clean = is.clean;
  covers = rw none tt;
}

pub same-then : (a b c : Files) → IsAlike a b → IsAlike b c → IsAlike a c
same-then a b c f g = record {
  inodes = f.inodes ∙ g.inodes;
  blocks = f.blocks ∙ g.blocks;
  entries = f.entries ∙ g.entries;
  highest = f.highest ∙ g.highest;
  handles = f.handles ∙ g.handles;
  sizes = λ ino inode found plain. f.sizes ino inode found plain ∙ g.sizes ino inode (subst (λ inodes. lookup (is_at (nat_cmp ino)) inodes ≡ Some inode) f.inodes found) plain;
}

pub same-none : (a : Files) → IsAlike a a
same-none a = record { inodes = refl; blocks = refl; entries = refl; highest = refl; handles = refl; sizes = λ ino inode found plain. refl }

-- what holds while dirty pages are put, with so many left
pub record Written (x y : Outlook) (old now : BackingState) (kept still : Kept) (left : ℕ) : Type 0 where
  pub fits : IsKept now.tree still
  pub same : IsAlike (present old.tree kept) (present now.tree still)
  pub paid : length still.pages.dirty ≤ now.space.credits
  pub issued : now.space.credits + length kept.pages.dirty ≡ old.space.credits + length still.pages.dirty
  pub count : length still.pages.dirty ≡ left
  pub few : left ≤ length kept.pages.dirty
  pub goes : Goes (2 * (length kept.pages.dirty - left)) old now
  pub grows : GrowsBy 0 old now kept still
  pub closed : now.closed ≤ old.closed
  pub cut : PutsSeen old now kept
  pub sure : SureGoes x y old now

pub written_begins : (x : Outlook) (old : BackingState) (kept : Kept) (n : ℕ) → IsKept old.tree kept → length kept.pages.dirty ≤ old.space.credits → n ≡ length kept.pages.dirty → Written x x old old kept kept n
written_begins x old kept n is paid same =
    let zero_more : 2 * (length kept.pages.dirty - n) ≡ 0 = omega (arith, same) in
    record { fits = is; same = same-none (present old.tree kept); paid = paid; issued = refl; count = sym same; few = omega (arith, same); goes = subst (λ k. Goes k old old) (sym zero_more) (Goes-none old); grows = omega arith; closed = omega arith; cut = Puts-none (ValuesOf (present old.tree kept).tree) old.journal; sure = Sure-none x old }

pub written_more : (x y z : Outlook) (old now new : BackingState) (kept still after : Kept) (left next : ℕ) → IsKept old.tree kept → Written x y old now kept still left → next + 1 ≡ left → IsKept new.tree after
    → IsAlike (present now.tree still) (present new.tree after) → length after.pages.dirty ≤ new.space.credits → new.space.credits + length still.pages.dirty ≡ now.space.credits + length after.pages.dirty → after.pages.dirty ≡ drop 1 still.pages.dirty → Goes 2 now new → GrowsBy 0 now new still after → new.closed ≤ now.closed → PutsSeen now new still → SureGoes y z now new → Written x z old new kept after next
written_more x y z old now new kept still after left next is w one fits same paid issued pages goes grows closed cut sure =
    let n : length after.pages.dirty ≡ length still.pages.dirty - 1 = ap (λ dirty. length dirty) pages ∙ length-drop 1 still.pages.dirty in
    let count = w.count in
    let few = w.few in
    let more : 2 * (length kept.pages.dirty - left) + 2 ≡ 2 * (length kept.pages.dirty - next) = omega (arith, one, few) in
    record {
      fits = fits;
      same = same-then (present old.tree kept) (present now.tree still) (present new.tree after) w.same same;
      paid = paid;
      issued = let before = w.issued in omega (arith, before, issued);
      count = omega (arith, n, count, one);
      few = omega (arith, few, one);
      goes = subst (λ k. Goes k old new) more (Goes-then (2 * (length kept.pages.dirty - left)) 2 old now new w.goes goes);
      grows = let before = w.grows in omega (arith, before, grows);
      closed = let before = w.closed in omega (arith, before, closed);
      cut = seen_then old now new kept still is w.fits w.same w.cut cut;
      sure = Sure-then x y z old now new w.sure sure;
    }

pub none_left : (dirty : DirtyPages) (n : ℕ) → length dirty ≡ n → n ≡ 0 → dirty ≡ []
none_left [] n h z = refl
none_left (e ∷ dirty) n h z = absurd (omega (arith, h, z))

-- the page is one that fits its file
pub is_file_page : (tree : Tree) (kept : Kept) (ticket : Ticket) (page : PageNode) (o : IsAt kept.pages ticket) (p : Putting tree kept ticket o) → page ≡ page_of ((ticket.ino, ticket.block), o.page) p.inode → IsFilePage tree page
is_file_page tree kept ticket page o p shown = subst (λ q. IsFilePage tree q) (sym shown) record {
  file = rw (p.fits.below.1, p.fits.below.2) refl;
  kind = λ old found. p.fits.kind ∙ sym (kind_of old found);
  links = λ old found. links_of old found;
  inode = p.fits.node;
  block = filled_block (ticket.ino, ticket.block) o.page.bytes p.inode.size p.block;
}
  where
    one : (old : Inode) → inode_at tree ticket.ino ≡ Some old → p.fits.below.0 ≡ old
    one old found = let e : Some p.fits.below.0 ≡ Some old = sym p.fits.below.1 ∙ found in cc e

    kind_of : (old : Inode) → inode_at tree ticket.ino ≡ Some old → old.kind ≡ File
    kind_of old found = ap (λ i. i.kind) (sym (one old found)) ∙ p.fits.below.2

    links_of : (old : Inode) → inode_at tree ticket.ino ≡ Some old → p.inode.nlink ≡ old.nlink
    links_of old found = sym p.fits.below.3 ∙ ap (λ i. i.nlink) (one old found)

-- What is found in a tree under the inodes and pages that cover it.
use Rattle.std.proofs.Common.{◌≡◌, ℕ, List, [], ◌∷◌, ◌⊎◌, Bool, true, false, Some, None, refl, sym, ap, subst, ◌∙◌, inl, inr, length, ◌+◌, ◌*◌, ◌≤◌, arith}
use Rattle.std.specs.Prelude.{◌==◌, fold}
use Rattle.std.specs.List.{list_all, AllByRecursion, IsDistinct}
use Rattle.std.specs.Map.{lookup, keys_of}
use Rattle.std.specs.Option.{option_map_or}
use Rattle.std.specs.BTreeMap.{insert_entry, is_at}
use Rattle.std.specs.Ordering.{nat_cmp}
use Rattle.std.specs.declared.cmp.Ordering.{Ordering}
use Rattle.std.proofs.lemmas.Bool.{and_parts, eqb-true}
use Rattle.std.proofs.lemmas.Bool.Decides.{nat_tests}
use Rattle.std.proofs.lemmas.Map.Keys.{IsDistinct-head, IsDistinct-tail}
use Rattle.fs_model.specs.declared.inode.Inode.{Inode}
use Rattle.fs_model.specs.Files.{Tree, Blocks, Inodes, inode_at, pair_cmp, blocks_end}
use Rattle.fs_model.specs.Proper.{ascends, is_block_node}
use Rattle.page_cache.specs.Pages.{is_page}
use Rattle.buffered_files.specs.declared.kept.Kept.{Kept}
use Rattle.buffered_files.specs.Present.{DirtyPages, with_page, present, IsKept, FitsPages}
use Rattle.buffered_files.proofs.Ends.{insert_ends, insert_other_ends}
use Rattle.buffered_files.proofs.Inserts.{with_all}
use Rattle.fs_laws.specs.Maps.{IsOrder, all_insert, insert_ascends, apart, tail_ascends, missing_first, set_here, set_other, key_cases}
use Rattle.fs_laws.specs.Orders.{numbers, pairs}

-- a name is one page's alone
pub page_cases : (a b : ℕ × ℕ) → ((a ≡ b) × (is_page a b ≡ true)) ⊎ ((a ≡ b → ⊥) × (is_page a b ≡ false))
page_cases a b = by (is_page a b) refl (key_cases pair_cmp pairs a b)
  where
    same_page : (k : ℕ × ℕ) → is_page k k ≡ true
    same_page k = grind (arith, nat_tests)

    one : is_page a b ≡ true → a ≡ b
    one h =
        let parts = and_parts (a.0 == b.0) (a.1 == b.1) h in
        let first : a.0 ≡ b.0 = eqb-true a.0 b.0 parts.0 in
        let second : a.1 ≡ b.1 = eqb-true a.1 b.1 parts.1 in
        λ i. (first i, second i)

    by : (t : Bool) → is_page a b ≡ t → (a ≡ b) ⊎ (a ≡ b → ⊥) → ((a ≡ b) × (is_page a b ≡ true)) ⊎ ((a ≡ b → ⊥) × (is_page a b ≡ false))
    by t e (inl same) = inl (same, subst (λ q. is_page a q ≡ true) same (same_page a))
    by true e (inr other) = absurd (other (one e))
    by false e (inr other) = inr (other, e)

-- what is set in a map by entries in order of key
pub found_all : {K X : Type 0} (cmp : K → K → Ordering) → IsOrder cmp → (new es : List (K × X)) (k : K) → ascends cmp (keys_of new) ≡ true
    → lookup (is_at (cmp k)) (with_all cmp es new) ≡ option_map_or (λ v. Some v) (lookup (is_at (cmp k)) new) (lookup (is_at (cmp k)) es)
found_all cmp order [] es k up = refl
found_all {K} {X} cmp order (e ∷ new) es k up = by (λ q. found_all cmp order new (insert_entry cmp es e.0 e.1) q (tail_ascends cmp new e up)) (key_cases cmp order k e.0)
  where
    here : option_map_or (λ v. Some v) (lookup (is_at (cmp e.0)) new) (lookup (is_at (cmp e.0)) (insert_entry cmp es e.0 e.1)) ≡ option_map_or (λ v. Some v) (lookup (is_at (cmp e.0)) (e ∷ new)) (lookup (is_at (cmp e.0)) es)
    here = rw (missing_first cmp order new e up, order.same e.0) (set_here cmp order es e.0 e.1)

    by : ((q : K) → lookup (is_at (cmp q)) (with_all cmp (insert_entry cmp es e.0 e.1) new) ≡ option_map_or (λ v. Some v) (lookup (is_at (cmp q)) new) (lookup (is_at (cmp q)) (insert_entry cmp es e.0 e.1))) → (k ≡ e.0) ⊎ (k ≡ e.0 → ⊥)
        → lookup (is_at (cmp k)) (with_all cmp es (e ∷ new)) ≡ option_map_or (λ v. Some v) (lookup (is_at (cmp k)) (e ∷ new)) (lookup (is_at (cmp k)) es)
    by more (inl same) =
        let P : K → Type 0 = λ q. lookup (is_at (cmp q)) (with_all cmp es (e ∷ new)) ≡ option_map_or (λ v. Some v) (lookup (is_at (cmp q)) (e ∷ new)) (lookup (is_at (cmp q)) es) in
        subst P (sym same) (more e.0 ∙ here)
    by more (inr other) =
        more k
        ∙ ap (λ z. option_map_or (λ v. Some v) (lookup (is_at (cmp k)) new) z) (set_other cmp order es e.0 e.1 k other)
        ∙ rw (apart cmp order k e.0 other) refl

-- the inode that callers see is the kept one, else the tree's
pub present_inode : (tree : Tree) (kept : Kept) (ino : ℕ) → IsKept tree kept → inode_at (present tree kept).tree ino ≡ option_map_or (λ v. Some v) (lookup (is_at (nat_cmp ino)) kept.inodes) (inode_at tree ino)
present_inode tree kept ino is = found_all nat_cmp numbers kept.inodes tree.inodes ino is.ascends

none_later : (dirty : DirtyPages) (k : ℕ × ℕ) → AllByRecursion (λ y. is_page k y ≡ false) (keys_of dirty) → lookup (is_page k) dirty ≡ None
none_later [] k all = refl
none_later (e ∷ dirty) k all = rw all.0 (none_later dirty k all.1)

-- the block that callers see is the dirty page, else the tree's
pub found_covered : (dirty : DirtyPages) (blocks : Blocks) (k : ℕ × ℕ) → IsDistinct is_page (keys_of dirty)
    → lookup (is_at (pair_cmp k)) (fold with_page blocks dirty) ≡ option_map_or (λ page. Some page.bytes) (lookup (is_page k) dirty) (lookup (is_at (pair_cmp k)) blocks)
found_covered [] blocks k once = refl
found_covered (e ∷ dirty) blocks k once = by (found_covered dirty (with_page blocks e) k (IsDistinct-tail is_page e.0 (keys_of dirty) once)) (page_cases k e.0)
  where
    by : lookup (is_at (pair_cmp k)) (fold with_page (with_page blocks e) dirty) ≡ option_map_or (λ page. Some page.bytes) (lookup (is_page k) dirty) (lookup (is_at (pair_cmp k)) (with_page blocks e))
        → ((k ≡ e.0) × (is_page k e.0 ≡ true)) ⊎ ((k ≡ e.0 → ⊥) × (is_page k e.0 ≡ false))
        → lookup (is_at (pair_cmp k)) (fold with_page (with_page blocks e) dirty) ≡ option_map_or (λ page. Some page.bytes) (lookup (is_page k) (e ∷ dirty)) (lookup (is_at (pair_cmp k)) blocks)
    by more (inl same) =
        let none : lookup (is_page k) dirty ≡ None = subst (λ q. lookup (is_page q) dirty ≡ None) (sym same.0) (none_later dirty e.0 (IsDistinct-head is_page e.0 (keys_of dirty) once)) in
        let set : lookup (is_at (pair_cmp k)) (with_page blocks e) ≡ Some e.1.bytes = subst (λ q. lookup (is_at (pair_cmp q)) (with_page blocks e) ≡ Some e.1.bytes) (sym same.0) (set_here pair_cmp pairs blocks e.0 e.1.bytes) in
        more ∙ rw (none, same.1) set
    by more (inr other) =
        more ∙ ap (λ z. option_map_or (λ page. Some page.bytes) (lookup (is_page k) dirty) z) (set_other pair_cmp pairs blocks e.0 e.1.bytes k other.0)
        ∙ rw other.1 refl

-- the blocks that callers see are nodes, in order
pub covered_nodes : (inodes : Inodes) (dirty : DirtyPages) (blocks : Blocks) → AllByRecursion (FitsPages inodes) dirty → list_all is_block_node blocks ≡ true → list_all is_block_node (fold with_page blocks dirty) ≡ true
covered_nodes inodes [] blocks fits all = all
covered_nodes inodes (e ∷ dirty) blocks fits all = covered_nodes inodes dirty (with_page blocks e) fits.1 (all_insert pair_cmp pairs is_block_node blocks e.0 e.1.bytes fits.0.2 all)

pub covered_ascends : (dirty : DirtyPages) (blocks : Blocks) → ascends pair_cmp (keys_of blocks) ≡ true → ascends pair_cmp (keys_of (fold with_page blocks dirty)) ≡ true
covered_ascends [] blocks up = up
covered_ascends (e ∷ dirty) blocks up = covered_ascends dirty (with_page blocks e) (insert_ascends pair_cmp pairs blocks e.0 e.1.bytes up)

-- no block ends behind a size that is kept
pub covered_ends : (inodes : Inodes) (dirty : DirtyPages) (blocks : Blocks) (ino : ℕ) (inode : Inode) → lookup (is_at (nat_cmp ino)) inodes ≡ Some inode → AllByRecursion (FitsPages inodes) dirty → blocks_end blocks ino ≤ inode.size
    → blocks_end (fold with_page blocks dirty) ino ≤ inode.size
covered_ends inodes [] blocks ino inode found fits ends = ends
covered_ends inodes (e ∷ dirty) blocks ino inode found fits ends =
    covered_ends inodes dirty (with_page blocks e) ino inode found fits.1
    (insert_ends blocks e.0 e.1.bytes ino inode.size ends (λ same.
    let one : Some fits.0.0 ≡ Some inode = sym fits.0.1 ∙ ap (λ n. lookup (is_at (nat_cmp n)) inodes) same ∙ found in
    let alike : fits.0.0 ≡ inode = cc one in
    subst (λ i. 4096 * e.0.1 + length e.1.bytes ≤ i.size) alike fits.0.3))

-- pages of other files leave a file's end
pub other_ends : (inodes : Inodes) (dirty : DirtyPages) (blocks : Blocks) (ino : ℕ) → lookup (is_at (nat_cmp ino)) inodes ≡ None → AllByRecursion (FitsPages inodes) dirty → blocks_end (fold with_page blocks dirty) ino ≡ blocks_end blocks ino
other_ends inodes [] blocks ino none fits = refl
other_ends inodes (e ∷ dirty) blocks ino none fits =
    other_ends inodes dirty (with_page blocks e) ino none fits.1
    ∙ insert_other_ends blocks e.0 e.1.bytes ino (λ same. let some : lookup (is_at (nat_cmp ino)) inodes ≡ Some fits.0.0 = ap (λ n. lookup (is_at (nat_cmp n)) inodes) (sym same) ∙ fits.0.1 in absurd cc)

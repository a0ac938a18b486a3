-- What changes mean to look-ups.
use Rattle.std.proofs.Common.{◌≡◌, ◌≢◌, ℕ, ◌*◌, ◌<◌, ◌≤◌, Bool, true, false, cond, not, ◌&&◌, List, [], ◌∷◌, Some, refl, sym, ap, subst, ◌∙◌, arith, inl, inr}
use Rattle.std.specs.Prelude.{filter, ◌==◌, nat_le, IsTrue, is_some, Option, None, unwrap_or}
use Rattle.std.specs.Map.{lookup, remove_entry}
use Rattle.std.specs.BTreeMap.{is_at, insert_entry}
use Rattle.std.specs.Cmp.{nat_cmp_is}
use Rattle.std.specs.Cmp.Lexicographic.{slice_cmp}
use Rattle.std.specs.Ordering.{nat_cmp, is_eq, match_ordering}
use Rattle.std.specs.declared.cmp.Ordering.{Ordering}
use Rattle.std.specs.declared.cmp.Ordering.TheVariants.{Less, Equal, Greater}
use Rattle.std.proofs.lemmas.Bool.{false≢true}
use Rattle.std.proofs.lemmas.Bool.Decides.{eqb_tells, nat_tests}
use Rattle.std.proofs.lemmas.Map.Lookups.{CmpEqualImpliesEq, exact_unsigned, exact_bytes, exact_pairs}
use Rattle.fs_model.specs.declared.inode.Inode.{Inode}
use Rattle.fs_model.specs.declared.inode.Entry.{Entry}
use Rattle.fs_model.specs.ChangeLaw.{SetsInode, SetsEntry, LeavesEntries, SetsBlock, CutsBlocks, DropsInode}
use Rattle.fs_model.specs.Change.{apply}
use Rattle.fs_model.specs.Backing.{page_group}
use Rattle.fs_model.specs.declared.page_node.PageNode.{PageNode}
use Rattle.fs_model.specs.Files.{Tree, Blocks, pair_cmp, name_cmp, inode_at, block_at, with_block}

nat_same : (x : ℕ) → nat_cmp x x ≡ Equal
nat_same x = sym (nat_cmp_is x x Equal refl)

bytes_same : (xs : List ℕ) → slice_cmp nat_cmp xs xs ≡ Equal
bytes_same [] = refl
bytes_same (x ∷ xs) = rw (nat_same x) (bytes_same xs)

name_same : (k : ℕ × List ℕ) → name_cmp k k ≡ Equal
name_same k = rw (nat_same k.0) (bytes_same k.1)

-- keys that differ aren't equal in the order
apart : {K : Type 0} (cmp : K → K → Ordering) → CmpEqualImpliesEq cmp → (q k : K) → (q ≡ k → ⊥) → is_at (cmp q) k ≡ false
apart cmp exact q k h = by (cmp q k) refl
  where
    by : (o : Ordering) → cmp q k ≡ o → is_eq o ≡ false
    by Less e = refl
    by Equal e = absurd (h (exact q k e))
    by Greater e = refl

-- what is set is there
set_here : {K X : Type 0} (cmp : K → K → Ordering) → ((k : K) → cmp k k ≡ Equal) → (es : List (K × X)) (k : K) (v : X) → lookup (is_at (cmp k)) (insert_entry cmp es k v) ≡ Some v
set_here cmp same [] k v = rw (same k) refl
set_here cmp same (e ∷ es) k v = by (set_here cmp same es k v) (cmp k e.0) refl
  where
    by : lookup (is_at (cmp k)) (insert_entry cmp es k v) ≡ Some v → (o : Ordering) → cmp k e.0 ≡ o → lookup (is_at (cmp k)) (match_ordering o ((k, v) ∷ e ∷ es) ((e.0, v) ∷ es) (e ∷ insert_entry cmp es k v)) ≡ Some v
    by more Less h = rw (same k) refl
    by more Equal h = rw h refl
    by more Greater h = rw h more

-- and what stands elsewhere stays
set_other : {K X : Type 0} (cmp : K → K → Ordering) → CmpEqualImpliesEq cmp → (es : List (K × X)) (k : K) (v : X) (q : K) → (q ≡ k → ⊥) → lookup (is_at (cmp q)) (insert_entry cmp es k v) ≡ lookup (is_at (cmp q)) es
set_other cmp exact [] k v q h = rw (apart cmp exact q k h) refl
set_other cmp exact (e ∷ es) k v q h = by (set_other cmp exact es k v q h) (cmp k e.0) refl
  where
    by : lookup (is_at (cmp q)) (insert_entry cmp es k v) ≡ lookup (is_at (cmp q)) es → (o : Ordering) → cmp k e.0 ≡ o
        → lookup (is_at (cmp q)) (match_ordering o ((k, v) ∷ e ∷ es) ((e.0, v) ∷ es) (e ∷ insert_entry cmp es k v)) ≡ lookup (is_at (cmp q)) (e ∷ es)
    by more Less x = rw (apart cmp exact q k h) refl
    by more Equal x = rw (apart cmp exact q e.0 (λ same. h (same ∙ sym (exact k e.0 x)))) refl
    by more Greater x = ap (λ z. cond (is_at (cmp q) e.0) (Some e.1) z) more

-- what is taken out leaves the others
removed_other : {K X : Type 0} (cmp : K → K → Ordering) → CmpEqualImpliesEq cmp → (es : List (K × X)) (k q : K) → (q ≡ k → ⊥) → lookup (is_at (cmp q)) (remove_entry (is_at (cmp k)) es) ≡ lookup (is_at (cmp q)) es
removed_other cmp exact [] k q h = refl
removed_other cmp exact (e ∷ es) k q h = by (removed_other cmp exact es k q h) (cmp k e.0) refl
  where
    by : lookup (is_at (cmp q)) (remove_entry (is_at (cmp k)) es) ≡ lookup (is_at (cmp q)) es → (o : Ordering) → cmp k e.0 ≡ o
        → lookup (is_at (cmp q)) (cond (is_eq o) es (e ∷ remove_entry (is_at (cmp k)) es)) ≡ lookup (is_at (cmp q)) (e ∷ es)
    by more Less x = ap (λ z. cond (is_at (cmp q) e.0) (Some e.1) z) more
    by more Equal x = rw (apart cmp exact q e.0 (λ same. h (same ∙ sym (exact k e.0 x)))) refl
    by more Greater x = ap (λ z. cond (is_at (cmp q) e.0) (Some e.1) z) more

exact_names : CmpEqualImpliesEq name_cmp
exact_names = exact_pairs nat_cmp (slice_cmp nat_cmp) exact_unsigned exact_bytes

exact_blocks : CmpEqualImpliesEq pair_cmp
exact_blocks = exact_pairs nat_cmp nat_cmp exact_unsigned exact_unsigned

-- a block that a test passes stays
kept_block : (test : (ℕ × ℕ) × List ℕ → Bool) (blocks : Blocks) (ino block : ℕ) → ((bytes : List ℕ) → test ((ino, block), bytes) ≡ true) → block_at (filter test blocks) ino block ≡ block_at blocks ino block
kept_block test [] ino block h = refl
kept_block test (e ∷ es) ino block h = by (kept_block test es ino block h) (pair_cmp (ino, block) e.0) refl (test e) refl
  where
    by : block_at (filter test es) ino block ≡ block_at es ino block → (o : Ordering) → pair_cmp (ino, block) e.0 ≡ o → (t : Bool) → test e ≡ t → block_at (cond t (e ∷ filter test es) (filter test es)) ino block ≡ block_at (e ∷ es) ino block
    by more Less x true y = rw x more
    by more Less x false y = rw x more
    by more Equal x true y = rw x refl
    by more Equal x false y =
        let P : ℕ × ℕ → Type 0 = λ k. test (k, e.1) ≡ true in
        absurd (false≢true (sym y ∙ subst P (exact_blocks (ino, block) e.0 x) (h e.1)))
    by more Greater x true y = rw x more
    by more Greater x false y = rw x more

-- and one that it doesn't pass goes
gone_block : (test : (ℕ × ℕ) × List ℕ → Bool) (blocks : Blocks) (ino block : ℕ) → ((bytes : List ℕ) → test ((ino, block), bytes) ≡ false) → block_at (filter test blocks) ino block ≡ []
gone_block test [] ino block h = refl
gone_block test (e ∷ es) ino block h = by (gone_block test es ino block h) (pair_cmp (ino, block) e.0) refl (test e) refl
  where
    by : block_at (filter test es) ino block ≡ [] → (o : Ordering) → pair_cmp (ino, block) e.0 ≡ o → (t : Bool) → test e ≡ t → block_at (cond t (e ∷ filter test es) (filter test es)) ino block ≡ []
    by more Less x true y = rw x more
    by more Less x false y = more
    by more Equal x true y =
        let P : ℕ × ℕ → Type 0 = λ k. test (k, e.1) ≡ false in
        absurd (false≢true (sym (subst P (exact_blocks (ino, block) e.0 x) (h e.1)) ∙ y))
    by more Equal x false y = more
    by more Greater x true y = rw x more
    by more Greater x false y = more

same_number : (a : ℕ) → (a == a) ≡ true
same_number a = grind (arith, nat_tests)

other_number : (a b : ℕ) → a ≢ b → (a == b) ≡ false
other_number a b h = elim (eqb_tells a b) [ inl same ↦ absurd (h same.1) | inr other ↦ other.0 ]

le_true : (a b : ℕ) → a ≤ b → nat_le a b ≡ true
le_true a b h = grind (arith, nat_tests)

le_false : (a b : ℕ) → b < a → nat_le a b ≡ false
le_false a b h = grind (arith, nat_tests)

-- whether a cut leaves a block
abbrev stays : ℕ → ℕ → (ℕ × ℕ) × List ℕ → Bool
stays ino size b = not ((b.0.0 == ino) && nat_le size (4096 * b.0.1))

-- whether a block is of another inode
abbrev is_other : ℕ → (ℕ × ℕ) × List ℕ → Bool
is_other ino b = not (b.0.0 == ino)

pub sets_inode : (tree : Tree) (ino : ℕ) (inode : Inode) → SetsInode tree ino inode
sets_inode tree ino inode = record {
  here = set_here nat_cmp nat_same tree.inodes ino inode;
  others = λ other h. set_other nat_cmp exact_unsigned tree.inodes ino inode other h;
}

pub sets_entry : (tree : Tree) (entry : Entry) → SetsEntry tree entry
sets_entry tree entry = record {
  here = set_here name_cmp name_same tree.entries (entry.dir, entry.name) entry;
  others = λ dir name h. set_other name_cmp exact_names tree.entries (entry.dir, entry.name) entry (dir, name) (λ e. h (ap (λ (k : ℕ × List ℕ). k.0) e) (ap (λ (k : ℕ × List ℕ). k.1) e));
}

pair_same : (k : ℕ × ℕ) → pair_cmp k k ≡ Equal
pair_same k = rw (nat_same k.0) (nat_same k.1)

pub block_here : (blocks : Blocks) (ino block : ℕ) (bytes : List ℕ) → block_at (with_block blocks ino block bytes) ino block ≡ bytes
block_here blocks ino block bytes = rw (set_here pair_cmp pair_same blocks (ino, block) bytes) refl

block_other : (blocks : Blocks) (ino block : ℕ) (bytes : List ℕ) (other number : ℕ) → (other ≡ ino → number ≡ block → ⊥) → block_at (with_block blocks ino block bytes) other number ≡ block_at blocks other number
block_other blocks ino block bytes other number h =
    ap (λ x. unwrap_or x []) (set_other pair_cmp exact_blocks blocks (ino, block) bytes (other, number) (λ e. h (ap (λ (k : ℕ × ℕ). k.0) e) (ap (λ (k : ℕ × ℕ). k.1) e)))

some_is_none : (inode : Inode) → Some inode ≡ None → ⊥
some_is_none inode e = cc e

pub sets_block : (tree : Tree) (ino block : ℕ) (bytes : List ℕ) → SetsBlock tree ino block bytes
sets_block tree ino block bytes = by (inode_at tree ino) refl
  where
    by : (found : Option Inode) → inode_at tree ino ≡ found → SetsBlock tree ino block bytes
    by None e = record {
      here = λ there. let P : Option Inode → Type 0 = λ found. IsTrue (is_some found) in absurd (false≢true (subst P e there));
      others = λ other number h. rw e refl;
      missing = λ none. rw e refl;
    }
    by (Some inode) e = record {
      here = λ there. rw e (block_here tree.blocks ino block bytes);
      others = λ other number h. rw e (block_other tree.blocks ino block bytes other number h);
      missing = λ none. absurd (some_is_none inode (sym e ∙ none));
    }

-- a page that was put is there
pub page_block : (tree : Tree) (page : PageNode) → block_at (apply tree (page_group page)).blocks page.ino page.block ≡ page.bytes
page_block tree page = rw (set_here nat_cmp nat_same tree.inodes page.ino page.inode) (block_here tree.blocks page.ino page.block page.bytes)

pub leaves_entries : (tree : Tree) (from : ℕ) (gone : List ℕ) → LeavesEntries tree from gone
leaves_entries tree from gone dir name h = removed_other name_cmp exact_names tree.entries (from, gone) (dir, name) (λ e. h (ap (λ (k : ℕ × List ℕ). k.0) e) (ap (λ (k : ℕ × List ℕ). k.1) e))

pub cuts_blocks : (tree : Tree) (ino old_size new_size : ℕ) → CutsBlocks tree ino old_size new_size
cuts_blocks tree ino old_size new_size = record {
  gone = λ block h. gone_block (stays ino new_size) tree.blocks ino block (λ bytes. rw (same_number ino, le_true new_size (4096 * block) h) refl);
  kept = λ block h. kept_block (stays ino new_size) tree.blocks ino block (λ bytes. rw (same_number ino, le_false new_size (4096 * block) h) refl);
  others = λ other block h. kept_block (stays ino new_size) tree.blocks other block (λ bytes. rw (other_number other ino h) refl);
}

pub drops_inode : (tree : Tree) (ino : ℕ) → DropsInode tree ino
drops_inode tree ino = record {
  blocks = λ block. gone_block (is_other ino) tree.blocks ino block (λ bytes. rw (same_number ino) refl);
  other_blocks = λ other block h. kept_block (is_other ino) tree.blocks other block (λ bytes. rw (other_number other ino h) refl);
  other_inodes = λ other h. removed_other nat_cmp exact_unsigned tree.inodes ino other h;
}

-- What is kept follows a group: callers see the group's changes, and what is kept fits the tree.
use Rattle.std.proofs.Common.{◌≡◌, ℕ, ◌*◌, ◌+◌, ◌≤◌, ◌⊎◌, inl, inr, Bool, true, false, cond, max, not, ◌||◌, List, [], ◌∷◌, length, Some, refl, sym, ap, subst, ◌∙◌, arith}
use Rattle.std.specs.Prelude.{◌==◌, IsTrue, filter, fold, unwrap_or}
use Rattle.std.specs.List.{list_all, AllByRecursion}
use Rattle.std.specs.Map.{lookup, set_value, remove_entry, keys_of}
use Rattle.std.specs.BTreeMap.{is_at}
use Rattle.std.specs.Ordering.{nat_cmp}
use Rattle.std.proofs.lemmas.Bool.{false≢true, and_parts}
use Rattle.std.proofs.lemmas.Bool.Decides.{nat_tests}
use Rattle.std.proofs.lemmas.Map.{keys-set_value}
use Rattle.fs_model.specs.declared.change.Change.{Change}
use Rattle.fs_model.specs.declared.change.Change.TheVariants.{SetInode, SetEntry, DropEntry, SetBlock, CutBlocks, DropInode}
use Rattle.fs_model.specs.declared.inode.Inode.{Inode}
use Rattle.fs_model.specs.declared.inode.Kind.TheVariants.{File}
use Rattle.fs_model.specs.Backing.{is_node}
use Rattle.fs_model.specs.Change.{applied, apply, without_blocks}
use Rattle.fs_model.specs.Files.{Tree, Inodes, Blocks, blocks_end, inode_at, pair_cmp}
use Rattle.fs_model.specs.Proper.{IsProper, ascends, is_inode_node}
use Rattle.page_cache.specs.Pages.{is_cut, cut_list}
use Rattle.page_cache.specs.declared.dirty_page.DirtyPage.{DirtyPage}
use Rattle.buffered_files.specs.declared.kept.Kept.{Kept}
use Rattle.buffered_files.specs.Follow.{follow, followed, is_of_inode}
use Rattle.buffered_files.specs.Present.{DirtyPages, with_page, covered, has_dirty, IsKept, FitsClean, FitsFile, FitsOver, FitsPages}
use Rattle.fs_laws.specs.Maps.{key_cases, set_here, set_other, removed_here, removed_other, insert_ascends, remove_ascends, filter_ascends}
use Rattle.fs_laws.specs.Orders.{numbers, pairs}
use Rattle.buffered_files.proofs.Clean.{clean_cut, stays_found}
use Rattle.buffered_files.proofs.Throughs.{set_through, remove_through, filter_insert, filter_insert_gone, set_value_here, set_value_other, WasSet, was_set}

-- an inode of the same kind and size
pub record IsSized (old new : Inode) : Type 0 where
  pub kind : new.kind ≡ old.kind
  pub size : new.size ≡ old.size

-- a change of inodes or names that leaves the kind and the size of each inode that is kept
abbrev pub IsOfKept : Kept → Change → Type 0
IsOfKept kept (SetInode ino inode) = (old : Inode) → lookup (is_at (nat_cmp ino)) kept.inodes ≡ Some old → IsSized old inode
IsOfKept kept (SetBlock ino block bytes) = ⊥
IsOfKept kept (CutBlocks ino old_size new_size) = ⊥
IsOfKept kept change = Unit {0}

-- a group of such changes
abbrev pub AreOfKept : Kept → List Change → Type 0
AreOfKept kept group = AllByRecursion (IsOfKept kept) group

-- changes of inodes alone are followed
pub followed_inodes : (group : List Change) (kept : Kept) → followed kept (filter is_of_inode group) ≡ followed kept group
followed_inodes [] kept = refl
followed_inodes (SetInode ino inode ∷ group) kept = followed_inodes group (follow kept (SetInode ino inode))
followed_inodes (SetEntry entry ∷ group) kept = followed_inodes group kept
followed_inodes (DropEntry dir name ∷ group) kept = followed_inodes group kept
followed_inodes (SetBlock ino block bytes ∷ group) kept = followed_inodes group kept
followed_inodes (CutBlocks ino old_size new_size ∷ group) kept = followed_inodes group kept
followed_inodes (DropInode ino ∷ group) kept = followed_inodes group (follow kept (DropInode ino))

pub filter_few : {X : Type 0} (test : X → Bool) (xs : List X) → length (filter test xs) ≤ length xs
filter_few test [] = omega arith
filter_few test (x ∷ xs) = by (filter_few test xs) (test x)
  where
    by : length (filter test xs) ≤ length xs → (b : Bool) → length (cond b (x ∷ filter test xs) (filter test xs)) ≤ length (x ∷ xs)
    by more true = omega (arith, more)
    by more false = omega (arith, more)

follow_few : (change : Change) (kept : Kept) → length (follow kept change).pages.dirty ≤ length kept.pages.dirty
follow_few (SetInode ino inode) kept = omega arith
follow_few (SetEntry entry) kept = omega arith
follow_few (DropEntry dir name) kept = omega arith
follow_few (SetBlock ino block bytes) kept = omega arith
follow_few (CutBlocks ino old_size new_size) kept = omega arith
follow_few (DropInode ino) kept = filter_few (λ e. not (is_cut ino 0 e.0)) kept.pages.dirty

-- no page becomes dirty
pub followed_few : (group : List Change) (kept : Kept) → length (followed kept group).pages.dirty ≤ length kept.pages.dirty
followed_few [] kept = omega arith
followed_few (change ∷ group) kept = let first = follow_few change kept in let rest = followed_few group (follow kept change) in omega (arith, first, rest)

-- what is cut from the start are all pages of the inode
from_zero : (ino : ℕ) (name : ℕ × ℕ) → is_cut ino 0 name ≡ (name.0 == ino)
from_zero ino name = grind (arith, nat_tests)

cut_all : (dirty : DirtyPages) (ino : ℕ) → cut_list dirty ino 0 ≡ filter (λ e. not (e.0.0 == ino)) dirty
cut_all [] ino = refl
cut_all (e ∷ dirty) ino =
    ap (λ b. cond (not b) (e ∷ cut_list dirty ino 0) (cut_list dirty ino 0)) (from_zero ino e.0)
    ∙ ap (λ rest. cond (not (e.0.0 == ino)) (e ∷ rest) rest) (cut_all dirty ino)

-- dirty pages that are left are no shorter than the blocks that are left
pub over_filter : (test : ℕ × ℕ → Bool) (blocks : Blocks) (dirty : DirtyPages) → AllByRecursion (FitsOver blocks) dirty → AllByRecursion (FitsOver (filter (λ b. test b.0) blocks)) (filter (λ e. test e.0) dirty)
over_filter test blocks [] all = tt
over_filter test blocks (e ∷ dirty) all = by (over_filter test blocks dirty all.1) (test e.0) refl
  where
    Rest : DirtyPages → Type 0
    Rest es = AllByRecursion (FitsOver (filter (λ b. test b.0) blocks)) es

    by : Rest (filter (λ f. test f.0) dirty) → (b : Bool) → test e.0 ≡ b → Rest (cond b (e ∷ filter (λ f. test f.0) dirty) (filter (λ f. test f.0) dirty))
    by more true t = (subst (λ o. length (unwrap_or o []) ≤ length e.1.bytes) (sym (stays_found test blocks e.0 t)) all.0, more)
    by more false t = more

-- pages over blocks, of which those whose key passes are left
pub filter_pages : (test : ℕ × ℕ → Bool) (dirty : DirtyPages) (blocks : Blocks) → ascends pair_cmp (keys_of blocks) ≡ true
    → fold with_page (filter (λ b. test b.0) blocks) (filter (λ e. test e.0) dirty) ≡ filter (λ b. test b.0) (fold with_page blocks dirty)
filter_pages test [] blocks h = refl
filter_pages test (e ∷ dirty) blocks h = by (filter_pages test dirty (with_page blocks e) (insert_ascends pair_cmp pairs blocks e.0 e.1.bytes h)) (test e.0) refl
  where
    More : Type 0
    More = fold with_page (filter (λ b. test b.0) (with_page blocks e)) (filter (λ f. test f.0) dirty) ≡ filter (λ b. test b.0) (fold with_page (with_page blocks e) dirty)

    by : More → (b : Bool) → test e.0 ≡ b
        → fold with_page (filter (λ b. test b.0) blocks) (cond b (e ∷ filter (λ f. test f.0) dirty) (filter (λ f. test f.0) dirty)) ≡ filter (λ b. test b.0) (fold with_page (with_page blocks e) dirty)
    by more true t = ap (λ z. fold with_page z (filter (λ f. test f.0) dirty)) (sym (filter_insert pair_cmp pairs test blocks e.0 e.1.bytes t h)) ∙ more
    by more false t = ap (λ z. fold with_page z (filter (λ f. test f.0) dirty)) (sym (filter_insert_gone pair_cmp pairs test blocks e.0 e.1.bytes t)) ∙ more

-- what is kept fits a tree whose keys ascend, which in the midst of a group need not be proper
pub record Fits (tree : Tree) (kept : Kept) : Type 0 where
  pub tree_inodes : ascends nat_cmp (keys_of tree.inodes) ≡ true
  pub tree_blocks : ascends pair_cmp (keys_of tree.blocks) ≡ true
  pub ascends : ascends nat_cmp (keys_of kept.inodes) ≡ true
  pub inodes : (ino : ℕ) (inode : Inode) → lookup (is_at (nat_cmp ino)) kept.inodes ≡ Some inode → FitsFile tree ino inode
  pub ends : (ino : ℕ) (inode : Inode) → lookup (is_at (nat_cmp ino)) kept.inodes ≡ Some inode → blocks_end tree.blocks ino ≤ inode.size
  pub pages : AllByRecursion (FitsPages kept.inodes) kept.pages.dirty
  pub settled : (ino : ℕ) (inode : Inode) → lookup (is_at (nat_cmp ino)) kept.inodes ≡ Some inode → has_dirty kept.pages.dirty ino ≡ false → inode_at tree ino ≡ Some inode
  pub clean : AllByRecursion (FitsClean tree.blocks) kept.pages.clean
  pub covers : AllByRecursion (FitsOver tree.blocks) kept.pages.dirty

pub fits_of : (tree : Tree) (kept : Kept) → IsKept tree kept → Fits tree kept
fits_of tree kept is = record {
  tree_inodes = is.proper.inodes_ascend;
  tree_blocks = is.proper.blocks_ascend;
  ascends = is.ascends;
  inodes = is.inodes;
  ends = is.ends;
  pages = is.pages;
  settled = is.settled;
  clean = is.clean;
  covers = is.covers;
}

-- callers see a change that is followed
covered_follow : (tree : Tree) (kept : Kept) (change : Change) → Fits tree kept → IsOfKept kept change
    → covered (applied tree change) (follow kept change).inodes (follow kept change).pages.dirty ≡ applied (covered tree kept.inodes kept.pages.dirty) change
covered_follow tree kept (SetInode ino inode) fits names =
    ap (λ inodes. record (applied (covered tree kept.inodes kept.pages.dirty) (SetInode ino inode)) { inodes = inodes }) (set_through nat_cmp numbers kept.inodes tree.inodes ino inode fits.ascends)
covered_follow tree kept (SetEntry entry) fits names = refl
covered_follow tree kept (DropEntry dir name) fits names = refl
covered_follow tree kept (SetBlock ino block bytes) fits names = absurd names
covered_follow tree kept (CutBlocks ino old_size new_size) fits names = absurd names
covered_follow tree kept (DropInode ino) fits names =
    let seen : Tree = applied (covered tree kept.inodes kept.pages.dirty) (DropInode ino) in
    let inodes = remove_through nat_cmp numbers kept.inodes tree.inodes ino fits.ascends fits.tree_inodes in
    let blocks = ap (λ dirty. fold with_page (without_blocks tree.blocks ino) dirty) (cut_all kept.pages.dirty ino) ∙ filter_pages (λ k. not (k.0 == ino)) kept.pages.dirty tree.blocks fits.tree_blocks in
    ap (λ z. record seen { inodes = z; blocks = fold with_page (without_blocks tree.blocks ino) (cut_list kept.pages.dirty ino 0) }) inodes
    ∙ ap (λ z. record seen { blocks = z }) blocks

-- the inode of a dirty page that is set keeps its size
page_set : (inodes : Inodes) (ino : ℕ) (inode : Inode) → ((old : Inode) → lookup (is_at (nat_cmp ino)) inodes ≡ Some old → IsSized old inode)
    → (e : (ℕ × ℕ) × DirtyPage) → FitsPages inodes e → FitsPages (set_value (is_at (nat_cmp ino)) inodes inode) e
page_set inodes ino inode names e fits = by (key_cases nat_cmp numbers e.0.0 ino)
  where
    by : (e.0.0 ≡ ino) ⊎ (e.0.0 ≡ ino → ⊥) → FitsPages (set_value (is_at (nat_cmp ino)) inodes inode) e
    by (inl same) =
        let here : lookup (is_at (nat_cmp ino)) inodes ≡ Some fits.0 = subst (λ k. lookup (is_at (nat_cmp k)) inodes ≡ Some fits.0) same fits.1 in
        let size = (names fits.0 here).size in
        let set : lookup (is_at (nat_cmp e.0.0)) (set_value (is_at (nat_cmp ino)) inodes inode) ≡ Some inode =
        subst (λ k. lookup (is_at (nat_cmp k)) (set_value (is_at (nat_cmp ino)) inodes inode) ≡ Some inode) (sym same) (set_value_here nat_cmp numbers inodes ino fits.0 inode here) in
        (inode, set, fits.2, subst (λ n. 4096 * e.0.1 + length e.1.bytes ≤ n) (sym size) fits.3)
    by (inr two) = (fits.0, set_value_other nat_cmp numbers inodes ino e.0.0 inode two ∙ fits.1, fits.2, fits.3)

pages_set : (inodes : Inodes) (ino : ℕ) (inode : Inode) → ((old : Inode) → lookup (is_at (nat_cmp ino)) inodes ≡ Some old → IsSized old inode)
    → (dirty : DirtyPages) → AllByRecursion (FitsPages inodes) dirty → AllByRecursion (FitsPages (set_value (is_at (nat_cmp ino)) inodes inode)) dirty
pages_set inodes ino inode names [] all = all
pages_set inodes ino inode names (e ∷ dirty) all = (page_set inodes ino inode names e all.0, pages_set inodes ino inode names dirty all.1)

not_equal : (a b : ℕ) → (a == b) ≡ false → a ≡ b → ⊥
not_equal a b t same = let one : (a == b) ≡ true = grind (arith, nat_tests) in absurd (false≢true (sym t ∙ one))

equal_not : (a b : ℕ) → (a ≡ b → ⊥) → (a == b) ≡ false
equal_not a b two = by (a == b) refl
  where
    by : (t : Bool) → (a == b) ≡ t → t ≡ false
    by true e = absurd (two (grind (arith, nat_tests)))
    by false e = refl

-- pages of the others stay
pages_cut : (inodes : Inodes) (ino : ℕ) (dirty : DirtyPages) → AllByRecursion (FitsPages inodes) dirty → AllByRecursion (FitsPages (remove_entry (is_at (nat_cmp ino)) inodes)) (filter (λ e. not (e.0.0 == ino)) dirty)
pages_cut inodes ino [] all = all
pages_cut inodes ino (e ∷ dirty) all = by (pages_cut inodes ino dirty all.1) (e.0.0 == ino) refl
  where
    Rest : Type 0
    Rest = AllByRecursion (FitsPages (remove_entry (is_at (nat_cmp ino)) inodes)) (filter (λ f. not (f.0.0 == ino)) dirty)

    by : Rest → (b : Bool) → (e.0.0 == ino) ≡ b → AllByRecursion (FitsPages (remove_entry (is_at (nat_cmp ino)) inodes)) (cond (not b) (e ∷ filter (λ f. not (f.0.0 == ino)) dirty) (filter (λ f. not (f.0.0 == ino)) dirty))
    by rest true t = rest
    by rest false t = ((all.0.0, removed_other nat_cmp numbers inodes ino e.0.0 (not_equal e.0.0 ino t) ∙ all.0.1, all.0.2, all.0.3), rest)

dirty_cut : (ino other : ℕ) → (other ≡ ino → ⊥) → (dirty : DirtyPages) → has_dirty (filter (λ e. not (e.0.0 == ino)) dirty) other ≡ has_dirty dirty other
dirty_cut ino other two [] = refl
dirty_cut ino other two (e ∷ dirty) = by (dirty_cut ino other two dirty) (e.0.0 == ino) refl
  where
    by : has_dirty (filter (λ f. not (f.0.0 == ino)) dirty) other ≡ has_dirty dirty other → (b : Bool) → (e.0.0 == ino) ≡ b
        → has_dirty (cond (not b) (e ∷ filter (λ f. not (f.0.0 == ino)) dirty) (filter (λ f. not (f.0.0 == ino)) dirty)) other ≡ (e.0.0 == other) || has_dirty dirty other
    by more true t =
        let same : e.0.0 ≡ ino = grind (arith, nat_tests) in
        rw (equal_not e.0.0 other (λ s. two (sym s ∙ same))) more
    by more false t = ap (λ z. (e.0.0 == other) || z) more

-- fewer blocks end no later
pub fewer_ends : (stays : (ℕ × ℕ) × List ℕ → Bool) (ino most : ℕ) (blocks : Blocks) → blocks_end blocks ino ≤ most → blocks_end (filter stays blocks) ino ≤ most
fewer_ends stays ino most [] h = h
fewer_ends stays ino most (e ∷ blocks) h = by (fewer_ends stays ino most blocks (here (e.0.0 == ino) h)) (e.0.0 == ino) refl (stays e)
  where
    here : (b : Bool) → cond b (max (4096 * e.0.1 + length e.1) (blocks_end blocks ino)) (blocks_end blocks ino) ≤ most → blocks_end blocks ino ≤ most
    here true g = omega (arith, g)
    here false g = g

    by : blocks_end (filter stays blocks) ino ≤ most → (b : Bool) → (e.0.0 == ino) ≡ b → (s : Bool) → blocks_end (cond s (e ∷ filter stays blocks) (filter stays blocks)) ino ≤ most
    by rest b t false = rest
    by rest true t true =
        let whole : max (4096 * e.0.1 + length e.1) (blocks_end blocks ino) ≤ most = rw t at h in
        rw t (omega (arith, rest, whole))
    by rest false t true = rw t rest

-- what is kept fits the tree after a change that is followed
fits_follow : (tree : Tree) (kept : Kept) (change : Change) → Fits tree kept → is_node change ≡ true → IsOfKept kept change → Fits (applied tree change) (follow kept change)
fits_follow tree kept (SetInode ino inode) fits node names = record {
  tree_inodes = insert_ascends nat_cmp numbers tree.inodes ino inode fits.tree_inodes;
  tree_blocks = fits.tree_blocks;
  ascends = subst (λ keys. ascends nat_cmp keys ≡ true) (sym (keys-set_value (is_at (nat_cmp ino)) kept.inodes inode)) fits.ascends;
  inodes = λ q x found. file q x (was_set nat_cmp numbers kept.inodes ino inode q x found);
  ends = λ q x found. end q x (was_set nat_cmp numbers kept.inodes ino inode q x found);
  pages = pages_set kept.inodes ino inode names kept.pages.dirty fits.pages;
  settled = λ q x found none. at q x none (was_set nat_cmp numbers kept.inodes ino inode q x found);
  clean = fits.clean;
  covers = fits.covers;
}
  where
    after : Tree
    after = applied tree (SetInode ino inode)

    here : (q : ℕ) (x : Inode) → q ≡ ino → x ≡ inode → inode_at after q ≡ Some x
    here q x same value = ap (λ k. inode_at after k) same ∙ set_here nat_cmp numbers tree.inodes ino inode ∙ ap (λ z. Some z) (sym value)

    there : (q : ℕ) → (q ≡ ino → ⊥) → inode_at after q ≡ inode_at tree q
    there q two = set_other nat_cmp numbers tree.inodes ino inode q two

    file : (q : ℕ) (x : Inode) → WasSet nat_cmp kept.inodes ino inode q x ⊎ ((q ≡ ino → ⊥) × (lookup (is_at (nat_cmp q)) kept.inodes ≡ Some x)) → FitsFile after q x
    file q x (inl was) =
        let found : lookup (is_at (nat_cmp ino)) kept.inodes ≡ Some was.before = subst (λ k. lookup (is_at (nat_cmp k)) kept.inodes ≡ Some was.before) was.same was.found in
        let kind : inode.kind ≡ File = (names was.before found).kind ∙ (fits.inodes ino was.before found).kind in
        let kind_here : x.kind ≡ File = ap (λ i. i.kind) was.value ∙ kind in
        record {
          node = subst (λ k. IsTrue (is_inode_node (k, x))) (sym was.same) (subst (λ i. IsTrue (is_inode_node (ino, i))) (sym was.value) node);
          kind = kind_here;
          below = (x, here q x was.same was.value, kind_here, refl);
        }
    file q x (inr other) =
        let it = fits.inodes q x other.1 in
        record { node = it.node; kind = it.kind; below = (it.below.0, there q other.0 ∙ it.below.1, it.below.2, it.below.3) }

    end : (q : ℕ) (x : Inode) → WasSet nat_cmp kept.inodes ino inode q x ⊎ ((q ≡ ino → ⊥) × (lookup (is_at (nat_cmp q)) kept.inodes ≡ Some x)) → blocks_end tree.blocks q ≤ x.size
    end q x (inl was) =
        let found : lookup (is_at (nat_cmp ino)) kept.inodes ≡ Some was.before = subst (λ k. lookup (is_at (nat_cmp k)) kept.inodes ≡ Some was.before) was.same was.found in
        let size : x.size ≡ was.before.size = ap (λ i. i.size) was.value ∙ (names was.before found).size in
        subst (λ n. blocks_end tree.blocks q ≤ n) (sym size) (fits.ends q was.before was.found)
    end q x (inr other) = fits.ends q x other.1

    at : (q : ℕ) (x : Inode) → has_dirty kept.pages.dirty q ≡ false → WasSet nat_cmp kept.inodes ino inode q x ⊎ ((q ≡ ino → ⊥) × (lookup (is_at (nat_cmp q)) kept.inodes ≡ Some x)) → inode_at after q ≡ Some x
    at q x none (inl was) = here q x was.same was.value
    at q x none (inr other) = there q other.0 ∙ fits.settled q x other.1 none
fits_follow tree kept (SetEntry entry) fits node names = record { tree_inodes = fits.tree_inodes; tree_blocks = fits.tree_blocks; ascends = fits.ascends; inodes = λ q x found. moved q x (fits.inodes q x found); ends = fits.ends; pages = fits.pages; settled = fits.settled; clean = fits.clean; covers = fits.covers }
  where
    moved : (q : ℕ) (x : Inode) → FitsFile tree q x → FitsFile (applied tree (SetEntry entry)) q x
    moved q x it = record { node = it.node; kind = it.kind; below = it.below }
fits_follow tree kept (DropEntry dir name) fits node names = record { tree_inodes = fits.tree_inodes; tree_blocks = fits.tree_blocks; ascends = fits.ascends; inodes = λ q x found. moved q x (fits.inodes q x found); ends = fits.ends; pages = fits.pages; settled = fits.settled; clean = fits.clean; covers = fits.covers }
  where
    moved : (q : ℕ) (x : Inode) → FitsFile tree q x → FitsFile (applied tree (DropEntry dir name)) q x
    moved q x it = record { node = it.node; kind = it.kind; below = it.below }
fits_follow tree kept (SetBlock ino block bytes) fits node names = absurd names
fits_follow tree kept (CutBlocks ino old_size new_size) fits node names = absurd names
fits_follow tree kept (DropInode ino) fits node names = record {
  tree_inodes = remove_ascends nat_cmp numbers (is_at (nat_cmp ino)) tree.inodes fits.tree_inodes;
  tree_blocks = filter_ascends pair_cmp pairs (λ b. not (b.0.0 == ino)) tree.blocks fits.tree_blocks;
  ascends = remove_ascends nat_cmp numbers (is_at (nat_cmp ino)) kept.inodes fits.ascends;
  inodes = λ q x found. file q x (left q x found);
  ends = λ q x found. fewer_ends (λ b. not (b.0.0 == ino)) q x.size tree.blocks (fits.ends q x (left q x found).1);
  pages = subst (λ dirty. AllByRecursion (FitsPages (remove_entry (is_at (nat_cmp ino)) kept.inodes)) dirty) (sym (cut_all kept.pages.dirty ino)) (pages_cut kept.inodes ino kept.pages.dirty fits.pages);
  settled = λ q x found none. at q x (left q x found) none;
  clean = clean_cut tree.blocks ino kept.pages.clean fits.clean;
  covers = subst (λ dirty. AllByRecursion (FitsOver (without_blocks tree.blocks ino)) dirty) (sym (cut_all kept.pages.dirty ino)) (over_filter (λ k. not (k.0 == ino)) tree.blocks kept.pages.dirty fits.covers);
}
  where
    after : Tree
    after = applied tree (DropInode ino)

    left : (q : ℕ) (x : Inode) → lookup (is_at (nat_cmp q)) (remove_entry (is_at (nat_cmp ino)) kept.inodes) ≡ Some x → (q ≡ ino → ⊥) × (lookup (is_at (nat_cmp q)) kept.inodes ≡ Some x)
    left q x found = by (key_cases nat_cmp numbers q ino)
      where
        by : (q ≡ ino) ⊎ (q ≡ ino → ⊥) → (q ≡ ino → ⊥) × (lookup (is_at (nat_cmp q)) kept.inodes ≡ Some x)
        by (inl same) =
            let none = removed_here nat_cmp numbers kept.inodes ino fits.ascends in
            let some = subst (λ k. lookup (is_at (nat_cmp k)) (remove_entry (is_at (nat_cmp ino)) kept.inodes) ≡ Some x) same found in
            absurd cc
        by (inr two) = (two, sym (removed_other nat_cmp numbers kept.inodes ino q two) ∙ found)

    there : (q : ℕ) → (q ≡ ino → ⊥) → inode_at after q ≡ inode_at tree q
    there q two = removed_other nat_cmp numbers tree.inodes ino q two

    file : (q : ℕ) (x : Inode) → (q ≡ ino → ⊥) × (lookup (is_at (nat_cmp q)) kept.inodes ≡ Some x) → FitsFile after q x
    file q x was =
        let it = fits.inodes q x was.1 in
        record { node = it.node; kind = it.kind; below = (it.below.0, there q was.0 ∙ it.below.1, it.below.2, it.below.3) }

    at : (q : ℕ) (x : Inode) → (q ≡ ino → ⊥) × (lookup (is_at (nat_cmp q)) kept.inodes ≡ Some x) → has_dirty (cut_list kept.pages.dirty ino 0) q ≡ false → inode_at after q ≡ Some x
    at q x was none =
        let before : has_dirty kept.pages.dirty q ≡ false = sym (dirty_cut ino q was.0 kept.pages.dirty) ∙ ap (λ dirty. has_dirty dirty q) (sym (cut_all kept.pages.dirty ino)) ∙ none in
        there q was.0 ∙ fits.settled q x was.1 before

-- the kinds and sizes of what is kept stay, for the rest of a group
names_follow : (kept : Kept) (change next : Change) → ascends nat_cmp (keys_of kept.inodes) ≡ true → IsOfKept kept change → IsOfKept kept next → IsOfKept (follow kept change) next
names_follow kept change (SetEntry entry) h names later = tt
names_follow kept change (DropEntry dir name) h names later = tt
names_follow kept change (SetBlock ino block bytes) h names later = later
names_follow kept change (CutBlocks ino old_size new_size) h names later = later
names_follow kept change (DropInode ino) h names later = tt
names_follow kept (SetInode first set) (SetInode ino inode) h names later = λ x found. by x (was_set nat_cmp numbers kept.inodes first set ino x found)
  where
    by : (x : Inode) → WasSet nat_cmp kept.inodes first set ino x ⊎ ((ino ≡ first → ⊥) × (lookup (is_at (nat_cmp ino)) kept.inodes ≡ Some x)) → IsSized x inode
    by x (inl was) =
        let there : lookup (is_at (nat_cmp first)) kept.inodes ≡ Some was.before = subst (λ k. lookup (is_at (nat_cmp k)) kept.inodes ≡ Some was.before) was.same was.found in
        let a = names was.before there in
        let b = later was.before was.found in
        let c = was.value in
        record { kind = b.kind ∙ sym a.kind ∙ ap (λ i. i.kind) (sym c); size = b.size ∙ sym a.size ∙ ap (λ i. i.size) (sym c) }
    by x (inr other) = later x other.1
names_follow kept (SetEntry entry) (SetInode ino inode) h names later = later
names_follow kept (DropEntry dir name) (SetInode ino inode) h names later = later
names_follow kept (SetBlock other block bytes) (SetInode ino inode) h names later = later
names_follow kept (CutBlocks other old_size new_size) (SetInode ino inode) h names later = later
names_follow kept (DropInode gone) (SetInode ino inode) h names later = λ x found. by x found (key_cases nat_cmp numbers ino gone)
  where
    by : (x : Inode) → lookup (is_at (nat_cmp ino)) (remove_entry (is_at (nat_cmp gone)) kept.inodes) ≡ Some x → (ino ≡ gone) ⊎ (ino ≡ gone → ⊥) → IsSized x inode
    by x found (inl same) =
        let none = removed_here nat_cmp numbers kept.inodes gone h in
        let some = subst (λ k. lookup (is_at (nat_cmp k)) (remove_entry (is_at (nat_cmp gone)) kept.inodes) ≡ Some x) same found in
        absurd cc
    by x found (inr two) = later x (sym (removed_other nat_cmp numbers kept.inodes gone ino two) ∙ found)

all_names : (kept : Kept) (change : Change) (group : List Change) → ascends nat_cmp (keys_of kept.inodes) ≡ true → IsOfKept kept change → AreOfKept kept group → AreOfKept (follow kept change) group
all_names kept change [] h names all = all
all_names kept change (next ∷ group) h names all = (names_follow kept change next h names all.0, all_names kept change group h names all.1)

-- a group was followed
pub record Followed (tree : Tree) (kept : Kept) (group : List Change) : Type 0 where
  pub fits : Fits (apply tree group) (followed kept group)
  pub seen : covered (apply tree group) (followed kept group).inodes (followed kept group).pages.dirty ≡ apply (covered tree kept.inodes kept.pages.dirty) group
  pub handles : (followed kept group).handles ≡ kept.handles

follow_handles : (change : Change) (kept : Kept) → (follow kept change).handles ≡ kept.handles
follow_handles (SetInode ino inode) kept = refl
follow_handles (SetEntry entry) kept = refl
follow_handles (DropEntry dir name) kept = refl
follow_handles (SetBlock ino block bytes) kept = refl
follow_handles (CutBlocks ino old_size new_size) kept = refl
follow_handles (DropInode ino) kept = refl

pub followed_is : (group : List Change) (tree : Tree) (kept : Kept) → Fits tree kept → list_all is_node group ≡ true → AreOfKept kept group → Followed tree kept group
followed_is [] tree kept fits nodes names = record { fits = fits; seen = refl; handles = refl }
followed_is (change ∷ group) tree kept fits nodes names =
    let parts = and_parts (is_node change) (list_all is_node group) nodes in
    let rest = followed_is group (applied tree change) (follow kept change) (fits_follow tree kept change fits parts.0 names.0) parts.1 (all_names kept change group fits.ascends names.0 names.1) in
    record {
      fits = rest.fits;
      seen = rest.seen ∙ ap (λ t. apply t group) (covered_follow tree kept change fits names.0);
      handles = rest.handles ∙ follow_handles change kept;
    }

pub kept_of : (tree : Tree) (kept : Kept) → IsProper tree → Fits tree kept → IsKept tree kept
kept_of tree kept proper fits = record { proper = proper; ascends = fits.ascends; inodes = fits.inodes; ends = fits.ends; pages = fits.pages; settled = fits.settled; clean = fits.clean; covers = fits.covers }

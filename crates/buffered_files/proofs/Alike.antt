-- The present files hang together as the tree below them does.
use Rattle.std.proofs.Common.{◌≡◌, ℕ, ◌≤◌, Bool, true, false, cond, not, ◌&&◌, ◌||◌, List, [], ◌∷◌, length, Some, refl, sym, ap, subst, ◌∙◌}
use Rattle.std.specs.Prelude.{◌==◌, nat_lt, nat_le, fold}
use Rattle.std.specs.List.{list_all, AllByRecursion}
use Rattle.std.specs.Map.{lookup, keys_of}
use Rattle.std.specs.BTreeMap.{insert_entry, is_at}
use Rattle.std.specs.Ordering.{nat_cmp, match_ordering, is_eq}
use Rattle.std.specs.declared.cmp.Ordering.{Ordering}
use Rattle.std.specs.declared.cmp.Ordering.TheVariants.{Less, Equal, Greater}
use Rattle.std.proofs.lemmas.Bool.{false≢true, and_parts}
use Rattle.fs_model.specs.declared.inode.Inode.{Inode}
use Rattle.fs_model.specs.declared.inode.Kind.TheVariants.{File}
use Rattle.fs_model.specs.Cover.{inode_bytes}
use Rattle.fs_model.specs.Files.{Tree, Inodes, Blocks, pair_cmp}
use Rattle.fs_model.specs.Path.{is_empty}
use Rattle.fs_model.specs.Proper.{IsProper, ascends, is_inode_node, is_block_node, are_words, are_long_words, are_bytes, has_data}
use Rattle.fs_laws.specs.Alike.{kind_and_links, told_by, IsBuiltAlike, HasNodes}
use Rattle.page_cache.specs.declared.dirty_page.DirtyPage.{DirtyPage}
use Rattle.buffered_files.specs.declared.kept.Kept.{Kept}
use Rattle.buffered_files.specs.Present.{DirtyPages, with_page, present, IsKept, FitsPages}
use Rattle.buffered_files.proofs.Inserts.{with_all}
use Rattle.fs_laws.specs.Maps.{missing_before, missing_first, tail_ascends, apart, all_at, all_from, all_insert, set_other, insert_ascends}
use Rattle.fs_laws.specs.Orders.{numbers, pairs}
use Rattle.buffered_files.proofs.Putting.{numbered, le_from}

-- an inode that tells what the one in its place told changes nothing of that
pub told_same : {X : Type 0} (what : Inode → X) (es : Inodes) (k : ℕ) (w v : Inode) → ascends nat_cmp (keys_of es) ≡ true → lookup (is_at (nat_cmp k)) es ≡ Some w → what w ≡ what v → told_by what (insert_entry nat_cmp es k v) ≡ told_by what es
told_same what [] k w v h found same = absurd cc
told_same {X} what (e ∷ es) k w v h found same = by (told_same what es k w v (tail_ascends nat_cmp es e h)) (nat_cmp k e.0) refl found
  where
    by : (lookup (is_at (nat_cmp k)) es ≡ Some w → what w ≡ what v → told_by what (insert_entry nat_cmp es k v) ≡ told_by what es) → (o : Ordering) → nat_cmp k e.0 ≡ o → cond (is_eq o) (Some e.1) (lookup (is_at (nat_cmp k)) es) ≡ Some w
        → told_by what (match_ordering o ((k, v) ∷ e ∷ es) ((e.0, v) ∷ es) (e ∷ insert_entry nat_cmp es k v)) ≡ (e.0, what e.1) ∷ told_by what es
    by more Less x f = let none = missing_before nat_cmp numbers es e k h x in let whole : lookup (is_at (nat_cmp k)) (e ∷ es) ≡ Some w = rw x f in absurd cc
    by more Equal x f = let first : e.1 ≡ w = cc f in ap (λ z. (e.0, z) ∷ told_by what es) (sym same ∙ ap what (sym first))
    by more Greater x f = ap (λ z. (e.0, what e.1) ∷ z) (more f same)

-- an inode in whose place one is that tells the same
pub record TellsAs {X : Type 0} (what : Inode → X) (es : Inodes) (k : ℕ) (v : Inode) : Type 0 where
  pub below : Inode
  pub found : lookup (is_at (nat_cmp k)) es ≡ Some below
  pub same : what below ≡ what v

told_all_same : {X : Type 0} (what : Inode → X) (new es : Inodes) → ascends nat_cmp (keys_of new) ≡ true → ascends nat_cmp (keys_of es) ≡ true
    → ((k : ℕ) (v : Inode) → lookup (is_at (nat_cmp k)) new ≡ Some v → TellsAs what es k v) → told_by what (with_all nat_cmp es new) ≡ told_by what es
told_all_same what [] es n h each = refl
told_all_same {X} what (e ∷ new) es n h each =
    told_all_same what new (insert_entry nat_cmp es e.0 e.1) (tail_ascends nat_cmp new e n) (insert_ascends nat_cmp numbers es e.0 e.1 h) (λ k v f. later k v f)
    ∙ first (each e.0 e.1 (rw (numbers.same e.0) refl))
  where
    first : TellsAs what es e.0 e.1 → told_by what (insert_entry nat_cmp es e.0 e.1) ≡ told_by what es
    first it = told_same what es e.0 it.below e.1 h it.found it.same

    two : (k : ℕ) (v : Inode) → lookup (is_at (nat_cmp k)) new ≡ Some v → k ≡ e.0 → ⊥
    two k v f same =
        let none = missing_first nat_cmp numbers new e n in
        let some = subst (λ q. lookup (is_at (nat_cmp q)) new ≡ Some v) same f in absurd cc

    later : (k : ℕ) (v : Inode) → lookup (is_at (nat_cmp k)) new ≡ Some v → TellsAs what (insert_entry nat_cmp es e.0 e.1) k v
    later k v f =
        let it = each k v (rw (apart nat_cmp numbers k e.0 (two k v f)) f) in
        record { below = it.below; found = set_other nat_cmp numbers es e.0 e.1 k (two k v f) ∙ it.found; same = it.same }

-- a regular file's inode has no data of its own
no_data : (ino : ℕ) (inode : Inode) → is_inode_node (ino, inode) ≡ true → inode.kind ≡ File → inode.extra ≡ []
no_data ino inode node kind =
    let last = and_parts (not (ino == 0) && nat_lt inode.mode 4096 && are_words (ino ∷ inode.uid ∷ inode.gid ∷ inode.flags ∷ inode.nlink ∷ [])
    && are_long_words (inode.size ∷ inode.atime ∷ inode.ctime ∷ inode.mtime ∷ []) && are_bytes inode.extra && nat_le (length inode.extra) 4096) (is_empty inode.extra || has_data inode.kind) node in
    by inode.extra (has_data inode.kind) (ap has_data kind) last.1
  where
    by : (extra : List ℕ) (d : Bool) → d ≡ false → (is_empty extra || d) ≡ true → extra ≡ []
    by [] d p t = refl
    by (x ∷ extra) d p t = absurd (false≢true (sym p ∙ t))

kept_links : (tree : Tree) (kept : Kept) → IsKept tree kept → (ino : ℕ) (inode : Inode) → lookup (is_at (nat_cmp ino)) kept.inodes ≡ Some inode → TellsAs kind_and_links tree.inodes ino inode
kept_links tree kept is ino inode found =
    let it = is.inodes ino inode found in
    let old = it.below.0 in
    let kind : old.kind ≡ inode.kind = it.below.2 ∙ sym it.kind in
    let links : old.nlink ≡ inode.nlink = it.below.3 in
    record { below = old; found = it.below.1; same = ap (λ k. (k, old.nlink)) kind ∙ ap (λ n. (inode.kind, n)) links }

kept_bytes : (tree : Tree) (kept : Kept) → IsKept tree kept → (ino : ℕ) (inode : Inode) → lookup (is_at (nat_cmp ino)) kept.inodes ≡ Some inode → TellsAs inode_bytes tree.inodes ino inode
kept_bytes tree kept is ino inode found =
    let it = is.inodes ino inode found in
    let old = it.below.0 in
    let node = all_at nat_cmp numbers is_inode_node tree.inodes ino old is.proper.inode_nodes it.below.1 in
    let none : old.extra ≡ inode.extra = no_data ino old node it.below.2 ∙ sym (no_data ino inode it.node it.kind) in
    record { below = old; found = it.below.1; same = rw none refl }

pub present_alike : (tree : Tree) (kept : Kept) → IsKept tree kept → IsBuiltAlike (present tree kept).tree tree
present_alike tree kept is = record {
  inodes = told_all_same kind_and_links kept.inodes tree.inodes is.ascends is.proper.inodes_ascend (λ ino inode found. kept_links tree kept is ino inode found);
  entries = refl;
  highest = refl;
}

pub present_bytes : (tree : Tree) (kept : Kept) → IsKept tree kept → told_by inode_bytes (present tree kept).tree.inodes ≡ told_by inode_bytes tree.inodes
present_bytes tree kept is = told_all_same inode_bytes kept.inodes tree.inodes is.ascends is.proper.inodes_ascend (λ ino inode found. kept_bytes tree kept is ino inode found)

all_set : (test : ℕ × Inode → Bool) (new es : Inodes) → list_all test new ≡ true → list_all test es ≡ true → list_all test (with_all nat_cmp es new) ≡ true
all_set test [] es n h = h
all_set test (e ∷ new) es n h =
    let parts = and_parts (test e) (list_all test new) n in
    all_set test new (insert_entry nat_cmp es e.0 e.1) parts.1 (all_insert nat_cmp numbers test es e.0 e.1 parts.0 h)

pages_ascend : (dirty : DirtyPages) (blocks : Blocks) → ascends pair_cmp (keys_of blocks) ≡ true → ascends pair_cmp (keys_of (fold with_page blocks dirty)) ≡ true
pages_ascend [] blocks h = h
pages_ascend (e ∷ dirty) blocks h = pages_ascend dirty (with_page blocks e) (insert_ascends pair_cmp pairs blocks e.0 e.1.bytes h)

pages_pass : (tree : Tree) (kept : Kept) → IsKept tree kept → (test : (ℕ × ℕ) × List ℕ → Bool)
    → ((e : (ℕ × ℕ) × DirtyPage) → FitsPages kept.inodes e → test (e.0, e.1.bytes) ≡ true)
    → (dirty : DirtyPages) → AllByRecursion (FitsPages kept.inodes) dirty → (blocks : Blocks) → list_all test blocks ≡ true → list_all test (fold with_page blocks dirty) ≡ true
pages_pass tree kept is test each [] all blocks h = h
pages_pass tree kept is test each (e ∷ dirty) all blocks h =
    pages_pass tree kept is test each dirty all.1 (with_page blocks e) (all_insert pair_cmp pairs test blocks e.0 e.1.bytes (each e all.0) h)

pub block_numbers : (tree : Tree) → IsProper tree → list_all (λ e. nat_le e.0.0 tree.highest) tree.blocks ≡ true
block_numbers tree proper =
    let parts = and_parts (list_all (λ e. nat_le e.0 tree.highest) tree.inodes && list_all (λ e. nat_le e.0.0 tree.highest) tree.blocks) (list_all (λ e. nat_le e.0.0 tree.highest && nat_le e.1.ino tree.highest) tree.entries) proper.numbers in
    (and_parts (list_all (λ e. nat_le e.0 tree.highest) tree.inodes) (list_all (λ e. nat_le e.0.0 tree.highest) tree.blocks) parts.0).1

-- the inodes and blocks that callers see are nodes
pub present_nodes : (tree : Tree) (kept : Kept) → IsKept tree kept → HasNodes (present tree kept).tree
present_nodes tree kept is = record {
  inode_nodes = all_set is_inode_node kept.inodes tree.inodes (all_from nat_cmp numbers is_inode_node kept.inodes is.ascends (λ ino inode found. (is.inodes ino inode found).node)) is.proper.inode_nodes;
  blocks_ascend = pages_ascend kept.pages.dirty tree.blocks is.proper.blocks_ascend;
  block_nodes = pages_pass tree kept is is_block_node (λ e fits. fits.2) kept.pages.dirty is.pages tree.blocks is.proper.block_nodes;
  block_numbers = pages_pass tree kept is (λ e. nat_le e.0.0 tree.highest) (λ e fits. le_from e.0.0 tree.highest (below e.0.0 fits.0 fits.1)) kept.pages.dirty is.pages tree.blocks (block_numbers tree is.proper);
}
  where
    below : (ino : ℕ) (inode : Inode) → lookup (is_at (nat_cmp ino)) kept.inodes ≡ Some inode → ino ≤ tree.highest
    below ino inode found = let it = is.inodes ino inode found in numbered tree ino it.below.0 is.proper it.below.1

pub tree_alike : (tree : Tree) (kept : Kept) → IsKept tree kept → IsBuiltAlike tree (present tree kept).tree
tree_alike tree kept is = record { inodes = sym (present_alike tree kept is).inodes; entries = refl; highest = refl }

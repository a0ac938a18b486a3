-- An inode without a name that goes, with its pages: what is kept follows.
use Rattle.std.proofs.Common.{◌≡◌, ℕ, ◌+◌, ◌≤◌, ◌&&◌, ◌||◌, Bool, true, false, cond, max, not, List, [], ◌∷◌, length, Option, Some, None, refl, sym, ap, subst, ◌∙◌, arith}
use Rattle.std.specs.Prelude.{◌==◌, filter, nat_lt, nat_le}
use Rattle.std.specs.Map.{keys_of, lookup, remove_entry}
use Rattle.std.specs.BTreeMap.{is_at}
use Rattle.std.specs.Option.{option_map_or}
use Rattle.std.specs.Ordering.{nat_cmp}
use Rattle.std.proofs.lemmas.Bool.{and_parts, and_from, false≢true}
use Rattle.fs_model.specs.declared.change.Change.TheVariants.{DropInode}
use Rattle.fs_model.specs.declared.inode.Inode.{Inode}
use Rattle.fs_model.specs.declared.inode.Kind.{Kind}
use Rattle.fs_model.specs.Backing.{BackingState, IsDropped, KeepsFiles, given_back, is_node, next_orphans}
use Rattle.fs_model.specs.Change.{applied, without_inode}
use Rattle.fs_model.specs.Files.{Tree, Inodes, inode_at, pair_cmp}
use Rattle.fs_model.specs.Orphan.{is_nameless, nameless}
use Rattle.fs_model.specs.Path.{is_empty}
use Rattle.fs_model.specs.Proper.{IsProper, are_words, are_long_words, are_bytes, has_data, is_inode_node, is_block_node}
use Rattle.fs_laws.specs.Alike.{HasNodes, IsBuiltAlike, kind_and_links, told_by}
use Rattle.fs_laws.specs.Maps.{all_at, all_filter, all_remove, filter_ascends}
use Rattle.fs_laws.specs.Orders.{numbers, pairs}
use Rattle.buffered_files.specs.declared.kept.Kept.{Kept}
use Rattle.buffered_files.specs.Follow.{follow}
use Rattle.buffered_files.specs.Present.{covered, present, IsKept}
use Rattle.buffered_files.proofs.Alike.{block_numbers}
use Rattle.buffered_files.proofs.Following.{Fits, fits_of, followed_is, kept_of}
use Rattle.buffered_files.proofs.Putting.{numbered}

told_removed : {X : Type 0} (what : Inode → X) (es : Inodes) (k : ℕ) → told_by what (remove_entry (is_at (nat_cmp k)) es) ≡ remove_entry (is_at (nat_cmp k)) (told_by what es)
told_removed what [] k = refl
told_removed {X} what (e ∷ es) k = by (told_removed what es k) (is_at (nat_cmp k) e.0)
  where
    by : told_by what (remove_entry (is_at (nat_cmp k)) es) ≡ remove_entry (is_at (nat_cmp k)) (told_by what es) → (b : Bool)
        → told_by what (cond b es (e ∷ remove_entry (is_at (nat_cmp k)) es)) ≡ cond b (told_by what es) ((e.0, what e.1) ∷ remove_entry (is_at (nat_cmp k)) (told_by what es))
    by more true = refl
    by more false = ap (λ z. (e.0, what e.1) ∷ z) more

-- that an inode has no name is told by its links
nameless_in : (es : Inodes) (ino : ℕ) → option_map_or (λ inode. inode.nlink == 0) (lookup (is_at (nat_cmp ino)) es) false ≡ option_map_or (λ (t : Kind × ℕ). t.1 == 0) (lookup (is_at (nat_cmp ino)) (told_by kind_and_links es)) false
nameless_in [] ino = refl
nameless_in (e ∷ es) ino = by (nameless_in es ino) (is_at (nat_cmp ino) e.0)
  where
    by : option_map_or (λ inode. inode.nlink == 0) (lookup (is_at (nat_cmp ino)) es) false ≡ option_map_or (λ (t : Kind × ℕ). t.1 == 0) (lookup (is_at (nat_cmp ino)) (told_by kind_and_links es)) false → (b : Bool)
        → option_map_or (λ inode. inode.nlink == 0) (cond b (Some e.1) (lookup (is_at (nat_cmp ino)) es)) false
        ≡ option_map_or (λ (t : Kind × ℕ). t.1 == 0) (cond b (Some (e.1.kind, e.1.nlink)) (lookup (is_at (nat_cmp ino)) (told_by kind_and_links es))) false
    by more true = refl
    by more false = more

-- what has no name has none in a tree that hangs together alike
pub nameless_alike : (a b : Tree) (ino : ℕ) → IsBuiltAlike a b → is_nameless a ino ≡ true → is_nameless b ino ≡ true
nameless_alike a b ino alike none =
    nameless_in b.inodes ino ∙ ap (λ es. option_map_or (λ (t : Kind × ℕ). t.1 == 0) (lookup (is_at (nat_cmp ino)) es) false) (sym alike.inodes) ∙ sym (nameless_in a.inodes ino) ∙ none

-- trees that hang together alike do so without an inode
pub alike_without : (a b : Tree) (ino : ℕ) → IsBuiltAlike a b → IsBuiltAlike (without_inode a ino) (without_inode b ino)
alike_without a b ino alike = record {
  inodes = told_removed kind_and_links a.inodes ino ∙ ap (λ es. remove_entry (is_at (nat_cmp ino)) es) alike.inodes ∙ sym (told_removed kind_and_links b.inodes ino);
  entries = alike.entries;
  highest = alike.highest;
}

-- the other inodes and blocks are nodes still
pub nodes_without : (tree : Tree) (ino : ℕ) → IsProper tree → HasNodes (without_inode tree ino)
nodes_without tree ino proper =
    let stays : (ℕ × ℕ) × List ℕ → Bool = λ b. not (b.0.0 == ino) in
    record {
      inode_nodes = all_remove is_inode_node (is_at (nat_cmp ino)) tree.inodes proper.inode_nodes;
      blocks_ascend = filter_ascends pair_cmp pairs stays tree.blocks proper.blocks_ascend;
      block_nodes = all_filter is_block_node stays tree.blocks proper.block_nodes;
      block_numbers = all_filter (λ e. nat_le e.0.0 tree.highest) stays tree.blocks (block_numbers tree proper);
    }

nameless_there : (tree : Tree) (ino : ℕ) → is_nameless tree ino ≡ true → (inode : Inode) × (inode_at tree ino ≡ Some inode)
nameless_there tree ino none = by (inode_at tree ino) refl none
  where
    by : (o : Option Inode) → inode_at tree ino ≡ o → option_map_or (λ inode. inode.nlink == 0) o false ≡ true → (inode : Inode) × (inode_at tree ino ≡ Some inode)
    by None found t = absurd cc
    by (Some inode) found t = (inode, found)

-- that an inode goes is a node where the inode is one
gone_node : (ino : ℕ) (inode : Inode) → is_inode_node (ino, inode) ≡ true → is_node (DropInode ino) ≡ true
gone_node ino inode node =
    let zero : Bool = not (ino == 0) in
    let mode : Bool = nat_lt inode.mode 4096 in
    let words : Bool = are_words (ino ∷ inode.uid ∷ inode.gid ∷ inode.flags ∷ inode.nlink ∷ []) in
    let long : Bool = are_long_words (inode.size ∷ inode.atime ∷ inode.ctime ∷ inode.mtime ∷ []) in
    let a = and_parts (zero && mode && words && long && are_bytes inode.extra && nat_le (length inode.extra) 4096) (is_empty inode.extra || has_data inode.kind) node in
    let b = and_parts (zero && mode && words && long && are_bytes inode.extra) (nat_le (length inode.extra) 4096) a.0 in
    let c = and_parts (zero && mode && words && long) (are_bytes inode.extra) b.0 in
    let d = and_parts (zero && mode && words) long c.0 in
    let e = and_parts (zero && mode) words d.0 in
    let f = and_parts zero mode e.0 in
    let word = and_parts (nat_lt ino 4294967296) (are_words (inode.uid ∷ inode.gid ∷ inode.flags ∷ inode.nlink ∷ [])) e.1 in
    and_from zero (are_words (ino ∷ [])) f.0 (and_from (nat_lt ino 4294967296) true word.0 refl)

-- no number is the highest but for what is there
applied_gone : (tree : Tree) (ino : ℕ) → ino ≤ tree.highest → applied tree (DropInode ino) ≡ without_inode tree ino
applied_gone tree ino below =
    let same : max tree.highest ino ≡ tree.highest = omega (arith, below) in
    ap (λ h. record (without_inode tree ino) { highest = h }) same

-- what is kept fits, and callers see that the inode is gone, and nothing else
pub record Dropped (old new : Tree) (kept after : Kept) (ino : ℕ) : Type 0 where
  pub fits : IsKept new after
  pub seen : present new after ≡ record (present old kept) { tree = without_inode (present old kept).tree ino }

tree_dropped : (tree : Tree) (kept : Kept) (ino : ℕ) → IsKept tree kept → is_nameless tree ino ≡ true → IsProper (without_inode tree ino) → Dropped tree (without_inode tree ino) kept (follow kept (DropInode ino)) ino
tree_dropped tree kept ino is none proper =
    let it = nameless_there tree ino none in
    let below = numbered tree ino it.0 is.proper it.1 in
    let node = gone_node ino it.0 (all_at nat_cmp numbers is_inode_node tree.inodes ino it.0 is.proper.inode_nodes it.1) in
    let after : Kept = follow kept (DropInode ino) in
    let done = followed_is (DropInode ino ∷ []) tree kept (fits_of tree kept is) (and_from (is_node (DropInode ino)) true node refl) (tt, tt) in
    let same = applied_gone tree ino below in
    let fits : Fits (without_inode tree ino) after = subst (λ t. Fits t after) same done.fits in
    let seen : covered (without_inode tree ino) after.inodes after.pages.dirty ≡ without_inode (covered tree kept.inodes kept.pages.dirty) ino =
    ap (λ t. covered t after.inodes after.pages.dirty) (sym same) ∙ done.seen ∙ applied_gone (covered tree kept.inodes kept.pages.dirty) ino below in
    record { fits = kept_of (without_inode tree ino) after proper fits; seen = ap (λ z. record { tree = z; handles = kept.handles }) seen }

pub dropped : (old put new : BackingState) (kept after : Kept) (ino credits : ℕ) → IsKept old.tree kept → is_nameless old.tree ino ≡ true → IsProper (without_inode old.tree ino) → IsDropped old put ino
    → after ≡ follow kept (DropInode ino) → new ≡ given_back put credits → Dropped old.tree new.tree kept after ino
dropped old put new kept after ino credits is none proper made follows given =
    let tree : new.tree ≡ without_inode old.tree ino = ap (λ s. s.tree) given ∙ made.tree in
    subst (λ t. Dropped old.tree t kept after ino) (sym tree)
    (subst (λ k. Dropped old.tree (without_inode old.tree ino) kept k ino) (sym follows) (tree_dropped old.tree kept ino is none proper))

-- an inode without a name fewer
fewer_nameless : (es : Inodes) (ino : ℕ) → option_map_or (λ (inode : Inode). inode.nlink == 0) (lookup (is_at (nat_cmp ino)) es) false ≡ true
    → length (keys_of (filter (λ entry. entry.1.nlink == 0) (remove_entry (is_at (nat_cmp ino)) es))) + 1 ≡ length (keys_of (filter (λ entry. entry.1.nlink == 0) es))
fewer_nameless [] ino t = absurd cc
fewer_nameless (e ∷ es) ino t = by (λ h. fewer_nameless es ino h) (is_at (nat_cmp ino) e.0) refl (e.1.nlink == 0) refl
  where
    by : (option_map_or (λ (inode : Inode). inode.nlink == 0) (lookup (is_at (nat_cmp ino)) es) false ≡ true → length (keys_of (filter (λ entry. entry.1.nlink == 0) (remove_entry (is_at (nat_cmp ino)) es))) + 1 ≡ length (keys_of (filter (λ entry. entry.1.nlink == 0) es)))
        → (b : Bool) → is_at (nat_cmp ino) e.0 ≡ b → (z : Bool) → (e.1.nlink == 0) ≡ z
        → length (keys_of (filter (λ entry. entry.1.nlink == 0) (remove_entry (is_at (nat_cmp ino)) (e ∷ es)))) + 1 ≡ length (keys_of (filter (λ entry. entry.1.nlink == 0) (e ∷ es)))
    by more true at true zero = rw (at, zero) (omega arith)
    by more true at false some = let n : (e.1.nlink == 0) ≡ true = rw at at t in absurd (false≢true (sym some ∙ n))
    by more false at true zero = let n = more (rw at at t) in rw (at, zero) (omega (arith, n))
    by more false at false some = let n = more (rw at at t) in rw (at, some) n

-- the next list of orphans gets no longer where one of them goes
pub orphan_gone : (old new : BackingState) (ino : ℕ) → is_nameless old.tree ino ≡ true → IsDropped old new ino → next_orphans new ≤ next_orphans old
orphan_gone old new ino none gone =
    let n : length (nameless (without_inode old.tree ino)) + 1 ≡ length (nameless old.tree) = fewer_nameless old.tree.inodes ino none in
    let same : length (nameless new.tree) ≡ length (nameless (without_inode old.tree ino)) = ap (λ t. length (nameless t)) gone.tree in
    let few = gone.closed in
    omega (arith, n, same, few)

-- nor where the files are kept
pub orphans_kept : (old new : BackingState) → KeepsFiles old new → next_orphans new ≤ next_orphans old
orphans_kept old new files =
    let same : length (nameless new.tree) ≡ length (nameless old.tree) = ap (λ t. length (nameless t)) files.tree in
    let few = files.closed in
    omega (arith, same, few)

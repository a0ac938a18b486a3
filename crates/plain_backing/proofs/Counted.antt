-- How the bytes of a tree change with its cells.
use Rattle.std.proofs.Common.{◌≡◌, ℕ, suc, ◌+◌, ◌-◌, ◌*◌, ◌≤◌, max, length, Bool, true, false, cond, not, ◌&&◌, List, [], ◌∷◌, Option, Some, None, refl, sym, ap, subst, ◌∙◌, arith}
use Rattle.std.specs.Prelude.{is_some, unwrap_or, sum_by, filter, nat_le, ◌==◌, Result, OnOk}
use Rattle.std.specs.List.{AllByRecursion}
use denote.Bor.{Bor}
use Rattle.std.specs.Option.{option_map, option_copied}
use Rattle.std.specs.List.Sorted.{IsStrictlySortedBy}
use Rattle.std.specs.Map.{lookup, remove_entry, set_value, keys_of, values_of}
use Rattle.std.specs.BTreeMap.{BTreeMap, is_at, insert_entry}
use Rattle.std.specs.Cmp.{IsTotalOrder}
use Rattle.std.specs.Cmp.Lexicographic.{slice_cmp}
use Rattle.std.specs.Ordering.{is_eq, match_ordering, nat_cmp}
use Rattle.std.specs.declared.cmp.Ordering.{Ordering}
use Rattle.std.specs.declared.cmp.Ordering.TheVariants.{Less, Equal, Greater}
use Rattle.std.proofs.lemmas.Cmp.{nat_cmp_total, on_total, then_total, nat_list_cmp_total}
use Rattle.std.proofs.lemmas.Bool.{false≢true}
use Rattle.std.proofs.lemmas.Bool.Decides.{nat_tests}
use Rattle.std.proofs.lemmas.List.Elements.{filter_agree}
use Rattle.std.proofs.lemmas.List.Sums.{sum_by-cons, sum_by-le-sum_by}
use Rattle.std.proofs.lemmas.Map.{keys-set_value}
use Rattle.std.proofs.lemmas.Map.Entries.{sum_by-insert_entry, sum_by-remove_entry}
use Rattle.std.proofs.lemmas.Map.Lookups.{CmpEqualImpliesEq, exact_unsigned, exact_bytes, exact_pairs}
use Rattle.fs_model.specs.declared.change.Change.{Change}
use Rattle.fs_model.specs.declared.change.Change.TheVariants.{SetInode, SetEntry, DropEntry, SetBlock, CutBlocks, DropInode}
use Rattle.fs_model.specs.declared.inode.Inode.{Inode}
use Rattle.fs_model.specs.declared.inode.Entry.{Entry}
use Rattle.plain_backing.specs.declared.tree_cells.Named.{Named}
use Rattle.plain_backing.specs.declared.tree_cells.TreeCells.{TreeCells}
use Rattle.plain_backing.specs.Cells.{seen_cells, has_cell, KeepsCells}
use Rattle.fs_model.specs.Cover.{entry_bytes, round_8, inode_bytes, block_bytes, tree_bytes}
use Rattle.fs_model.specs.Orphan.{nameless}
use Rattle.plain_backing.specs.Orphans.{orphans_in}
use Rattle.fs_laws.specs.Maps.{set_here}
use Rattle.fs_laws.specs.Orders.{numbers}
use Rattle.fs_model.specs.Backing.{page_group}
use Rattle.fs_model.specs.Change.{applied, apply, cut_blocks, without_blocks}
use Rattle.fs_model.specs.declared.page_node.PageNode.{PageNode}
use Rattle.fs_model.specs.Files.{Tree, Inodes, Blocks, Entries, pair_cmp, name_cmp, with_block}
use Rattle.plain_backing.specs.TreeCells.{entry_of, entries_of_names, tree_of_cells, set_bytes, HasCellRoom, AreCellsCounted, KeepsRoom, Makes}
use Rattle.plain_backing.proofs.Seen.{seen-put, seen-inserted, seen-emptied, sorted-seen, has-same}

pub name_cmp-total : IsTotalOrder name_cmp
name_cmp-total = then_total (on_total (λ p. p.0) nat_cmp_total) (on_total (λ p. p.1) nat_list_cmp_total)

pub exact_names : CmpEqualImpliesEq name_cmp
exact_names = exact_pairs nat_cmp (slice_cmp nat_cmp) exact_unsigned exact_bytes

pub exact_blocks : CmpEqualImpliesEq pair_cmp
exact_blocks = exact_pairs nat_cmp nat_cmp exact_unsigned exact_unsigned

pub tree_same : (a b : Inodes) (cs ds : Blocks) (es fs : Entries) (h i : ℕ) → a ≡ b → cs ≡ ds → es ≡ fs → h ≡ i
    → ◌≡◌ {A = Tree} (record { inodes = a; blocks = cs; entries = es; highest = h }) (record { inodes = b; blocks = ds; entries = fs; highest = i })
tree_same a b cs ds es fs h i p q r s = cc

-- what a put leaves of the keys
pub keeps_put : {K V : Type 0} (cmp : K → K → Ordering) (test : K → Bool) (cells new : List (K × Option V)) (w : Option V) → new ≡ set_value test cells w → KeepsCells cmp cells new
keeps_put cmp test cells new w e = λ key h. has-same (is_at (cmp key)) cells new (ap keys_of e ∙ keys-set_value test cells w) ∙ h

-- a value more, and the one that it replaces
pub set_counts : {K V : Type 0} {cmp : K → K → Ordering} → IsTotalOrder cmp → CmpEqualImpliesEq cmp → (w : V → ℕ) (cells new : List (K × Option V)) (k : K) (v : V) (old : Option V) → IsStrictlySortedBy cmp (keys_of cells) → has_cell cmp cells k ≡ true
    → new ≡ set_value (is_at (cmp k)) cells (Some v) → old ≡ lookup (is_at (cmp k)) (seen_cells cells)
    → sum_by w (values_of (seen_cells new)) + unwrap_or (option_map w old) 0 ≡ sum_by w (values_of (seen_cells cells)) + w v
set_counts {cmp = cmp} o exact w cells new k v old s h e f =
    rw (e, f, seen-put o exact cells k v s h) (sum_by-insert_entry w o (seen_cells cells) k v (sorted-seen cmp cells s))

-- the same of a value that is inserted with its cell
pub insert_counts : {K V : Type 0} {cmp : K → K → Ordering} → IsTotalOrder cmp → CmpEqualImpliesEq cmp → (w : V → ℕ) (cells new : List (K × Option V)) (k : K) (v : V) (old : Option V) → IsStrictlySortedBy cmp (keys_of cells)
    → new ≡ insert_entry cmp cells k (Some v) → old ≡ lookup (is_at (cmp k)) (seen_cells cells)
    → sum_by w (values_of (seen_cells new)) + unwrap_or (option_map w old) 0 ≡ sum_by w (values_of (seen_cells cells)) + w v
insert_counts {cmp = cmp} o exact w cells new k v old s e f =
    rw (e, f, seen-inserted o exact cells k v s) (sum_by-insert_entry w o (seen_cells cells) k v (sorted-seen cmp cells s))

-- a value less
pub drop_counts : {K V : Type 0} {cmp : K → K → Ordering} → IsTotalOrder cmp → (w : V → ℕ) (cells new : List (K × Option V)) (k : K) (old : Option V) → IsStrictlySortedBy cmp (keys_of cells)
    → new ≡ set_value (is_at (cmp k)) cells None → old ≡ lookup (is_at (cmp k)) (seen_cells cells)
    → sum_by w (values_of (seen_cells new)) + unwrap_or (option_map w old) 0 ≡ sum_by w (values_of (seen_cells cells))
drop_counts {cmp = cmp} o w cells new k old s e f =
    rw (e, f, seen-emptied o cells k s) (sum_by-remove_entry w (is_at (cmp k)) (seen_cells cells))

-- entries of names
pub keys-entries_of : (es : List ((ℕ × List ℕ) × Named)) → keys_of (entries_of_names es) ≡ keys_of es
keys-entries_of [] = refl
keys-entries_of (e ∷ es) = ap (λ ks. e.0 ∷ ks) (keys-entries_of es)

pub entries_of-insert : (es : List ((ℕ × List ℕ) × Named)) (k : ℕ × List ℕ) (v : Named) → entries_of_names (insert_entry name_cmp es k v) ≡ insert_entry name_cmp (entries_of_names es) k (entry_of k v)
entries_of-insert [] k v = refl
entries_of-insert (e ∷ es) k v = by (entries_of-insert es k v) (name_cmp k e.0) refl
  where
    by : entries_of_names (insert_entry name_cmp es k v) ≡ insert_entry name_cmp (entries_of_names es) k (entry_of k v) → (o : Ordering) → name_cmp k e.0 ≡ o
        → entries_of_names (match_ordering o ((k, v) ∷ e ∷ es) ((e.0, v) ∷ es) (e ∷ insert_entry name_cmp es k v))
        ≡ match_ordering o ((k, entry_of k v) ∷ (e.0, entry_of e.0 e.1) ∷ entries_of_names es) ((e.0, entry_of k v) ∷ entries_of_names es) ((e.0, entry_of e.0 e.1) ∷ insert_entry name_cmp (entries_of_names es) k (entry_of k v))
    by more Less h = refl
    by more Equal h = ap (λ (z : ℕ × List ℕ). (e.0, entry_of z v) ∷ entries_of_names es) (sym (exact_names k e.0 h))
    by more Greater h = ap (λ xs. (e.0, entry_of e.0 e.1) ∷ xs) more

pub entries_of-remove : (test : ℕ × List ℕ → Bool) (es : List ((ℕ × List ℕ) × Named)) → entries_of_names (remove_entry test es) ≡ remove_entry test (entries_of_names es)
entries_of-remove test [] = refl
entries_of-remove test (e ∷ es) = by (entries_of-remove test es) (test e.0)
  where
    by : entries_of_names (remove_entry test es) ≡ remove_entry test (entries_of_names es) → (b : Bool) → entries_of_names (cond b es (e ∷ remove_entry test es)) ≡ cond b (entries_of_names es) ((e.0, entry_of e.0 e.1) ∷ remove_entry test (entries_of_names es))
    by more true = refl
    by more false = ap (λ xs. (e.0, entry_of e.0 e.1) ∷ xs) more

pub entries_of-lookup : (es : List ((ℕ × List ℕ) × Named)) (k : ℕ × List ℕ) → lookup (is_at (name_cmp k)) (entries_of_names es) ≡ option_map (entry_of k) (lookup (is_at (name_cmp k)) es)
entries_of-lookup [] k = refl
entries_of-lookup (e ∷ es) k = by (entries_of-lookup es k) (name_cmp k e.0) refl
  where
    by : lookup (is_at (name_cmp k)) (entries_of_names es) ≡ option_map (entry_of k) (lookup (is_at (name_cmp k)) es) → (o : Ordering) → name_cmp k e.0 ≡ o
        → cond (is_eq o) (Some (entry_of e.0 e.1)) (lookup (is_at (name_cmp k)) (entries_of_names es)) ≡ option_map (entry_of k) (cond (is_eq o) (Some e.1) (lookup (is_at (name_cmp k)) es))
    by more Less h = more
    by more Equal h = ap (λ (z : ℕ × List ℕ). Some (entry_of z e.1)) (sym (exact_names k e.0 h))
    by more Greater h = more

-- the bytes of a name's node, whatever it stands for
name_freed : (old : Option Named) (k : ℕ × List ℕ) → cond (is_some old) (round_8 (57 + length k.1)) 0 ≡ unwrap_or (option_map entry_bytes (option_map (entry_of k) old)) 0
name_freed None k = refl
name_freed (Some x) k = refl

pub set_entry_counts : (cells new : List ((ℕ × List ℕ) × Option Named)) (k : ℕ × List ℕ) (v : Named) (old : Option Named) → IsStrictlySortedBy name_cmp (keys_of cells) → has_cell name_cmp cells k ≡ true
    → new ≡ set_value (is_at (name_cmp k)) cells (Some v) → old ≡ lookup (is_at (name_cmp k)) (seen_cells cells)
    → sum_by entry_bytes (values_of (entries_of_names (seen_cells new))) + cond (is_some old) (round_8 (57 + length k.1)) 0 ≡ sum_by entry_bytes (values_of (entries_of_names (seen_cells cells))) + entry_bytes (entry_of k v)
set_entry_counts cells new k v old s h e f =
    let sorted : IsStrictlySortedBy name_cmp (keys_of (entries_of_names (seen_cells cells))) = rw (keys-entries_of (seen_cells cells)) (sorted-seen name_cmp cells s) in
    let lists : entries_of_names (seen_cells new) ≡ insert_entry name_cmp (entries_of_names (seen_cells cells)) k (entry_of k v) = ap (λ z. entries_of_names (seen_cells z)) e ∙ ap entries_of_names (seen-put name_cmp-total exact_names cells k v s h) ∙ entries_of-insert (seen_cells cells) k v in
    let there : option_map (entry_of k) old ≡ lookup (is_at (name_cmp k)) (entries_of_names (seen_cells cells)) = ap (option_map (entry_of k)) f ∙ sym (entries_of-lookup (seen_cells cells) k) in
    rw (name_freed old k, there, lists) (sum_by-insert_entry entry_bytes name_cmp-total (entries_of_names (seen_cells cells)) k (entry_of k v) sorted)

pub drop_entry_counts : (cells new : List ((ℕ × List ℕ) × Option Named)) (k : ℕ × List ℕ) (old : Option Named) → IsStrictlySortedBy name_cmp (keys_of cells)
    → new ≡ set_value (is_at (name_cmp k)) cells None → old ≡ lookup (is_at (name_cmp k)) (seen_cells cells)
    → sum_by entry_bytes (values_of (entries_of_names (seen_cells new))) + cond (is_some old) (round_8 (57 + length k.1)) 0 ≡ sum_by entry_bytes (values_of (entries_of_names (seen_cells cells)))
drop_entry_counts cells new k old s e f =
    let lists : entries_of_names (seen_cells new) ≡ remove_entry (is_at (name_cmp k)) (entries_of_names (seen_cells cells)) = ap (λ z. entries_of_names (seen_cells z)) e ∙ ap entries_of_names (seen-emptied name_cmp-total cells k s) ∙ entries_of-remove (is_at (name_cmp k)) (seen_cells cells) in
    let there : option_map (entry_of k) old ≡ lookup (is_at (name_cmp k)) (entries_of_names (seen_cells cells)) = ap (option_map (entry_of k)) f ∙ sym (entries_of-lookup (seen_cells cells) k) in
    rw (name_freed old k, there, lists) (sum_by-remove_entry entry_bytes (is_at (name_cmp k)) (entries_of_names (seen_cells cells)))

-- what a change sets has its cell, where the change is known
pub room_made : {A E : Type 0} (r : Result A E) (c : TreeCells) (x y : Change) → x ≡ y → OnOk r (HasCellRoom c y) → OnOk r (HasCellRoom c x)
room_made r c x y is h = let P : Change → Type 0 = λ z. OnOk r (HasCellRoom c z) in subst P (sym is) h

pub entry_made : (c : TreeCells) (m : BTreeMap (ℕ × List ℕ) (Option Named)) (entry : Entry) (r : List ℕ) (old : Option Named) (added freed h : ℕ) → r ≡ entry.name → IsStrictlySortedBy name_cmp (keys_of c.entries.entries)
    → has_cell name_cmp c.entries.entries (entry.dir, entry.name) ≡ true → m.entries ≡ set_value (is_at (name_cmp (entry.dir, r))) c.entries.entries (Some (record { ino = entry.ino; kind = entry.kind }))
    → old ≡ lookup (is_at (name_cmp (entry.dir, r))) (seen_cells c.entries.entries) → added ≡ entry_bytes entry → freed ≡ cond (is_some old) added 0 → AreCellsCounted c → h ≡ max c.highest entry.dir
    → Makes c (record { inodes = c.inodes; blocks = c.blocks; entries = m; highest = h; bytes = c.bytes + added - freed; orphans = c.orphans }) (applied (tree_of_cells c) (SetEntry entry)) (entry_bytes entry)
entry_made c m entry r old added freed h name s has told there is gone counted top =
    let named : Named = record { ino = entry.ino; kind = entry.kind } in
    let key : ℕ × List ℕ = (entry.dir, entry.name) in
    let P : List ℕ → Type 0 = λ z. m.entries ≡ set_value (is_at (name_cmp (entry.dir, z))) c.entries.entries (Some named) in
    let Q : List ℕ → Type 0 = λ z. old ≡ lookup (is_at (name_cmp (entry.dir, z))) (seen_cells c.entries.entries) in
    let cells = subst P name told in
    let counts = set_entry_counts c.entries.entries m.entries key named old s has cells (subst Q name there) in
    let less : freed ≡ cond (is_some old) (round_8 (57 + length entry.name)) 0 = gone ∙ ap (λ n. cond (is_some old) n 0) is in
    record {
      tree = tree_same _ _ _ _ _ _ _ _ refl refl (ap (λ z. entries_of_names (seen_cells z)) cells ∙ ap entries_of_names (seen-put name_cmp-total exact_names c.entries.entries key named s has) ∙ entries_of-insert (seen_cells c.entries.entries) key named) top;
      counted = (omega (arith, counts, counted.0, is, less), counted.1);
      bytes = omega (arith, is);
      room = record { inodes = λ k g. g; blocks = λ k g. g; entries = keeps_put name_cmp _ _ _ _ cells };
    }

pub entry_dropped : (c : TreeCells) (m : BTreeMap (ℕ × List ℕ) (Option Named)) (dir : ℕ) (name r : List ℕ) (old : Option Named) (size freed h : ℕ) → r ≡ name → IsStrictlySortedBy name_cmp (keys_of c.entries.entries)
    → m.entries ≡ set_value (is_at (name_cmp (dir, r))) c.entries.entries None → old ≡ lookup (is_at (name_cmp (dir, r))) (seen_cells c.entries.entries) → size ≡ round_8 (57 + length name) → freed ≡ cond (is_some old) size 0 → AreCellsCounted c → h ≡ max c.highest dir
    → (freed ≤ c.bytes) × Makes c (record { inodes = c.inodes; blocks = c.blocks; entries = m; highest = h; bytes = c.bytes - freed; orphans = c.orphans }) (applied (tree_of_cells c) (DropEntry dir name)) 0
entry_dropped c m dir name r old size freed h same s told there is gone counted top =
    let key : ℕ × List ℕ = (dir, name) in
    let P : List ℕ → Type 0 = λ z. m.entries ≡ set_value (is_at (name_cmp (dir, z))) c.entries.entries None in
    let Q : List ℕ → Type 0 = λ z. old ≡ lookup (is_at (name_cmp (dir, z))) (seen_cells c.entries.entries) in
    let cells = subst P same told in
    let counts = drop_entry_counts c.entries.entries m.entries key old s cells (subst Q same there) in
    let less : freed ≡ cond (is_some old) (round_8 (57 + length name)) 0 = gone ∙ ap (λ n. cond (is_some old) n 0) is in (
      omega (arith, counts, counted.0, less),
      record {
        tree = tree_same _ _ _ _ _ _ _ _ refl refl (ap (λ z. entries_of_names (seen_cells z)) cells ∙ ap entries_of_names (seen-emptied name_cmp-total c.entries.entries key s) ∙ entries_of-remove (is_at (name_cmp key)) (seen_cells c.entries.entries)) top;
        counted = (omega (arith, counts, counted.0, less), counted.1);
        bytes = omega arith;
        room = record { inodes = λ k g. g; blocks = λ k g. g; entries = keeps_put name_cmp _ _ _ _ cells };
      },
    )

-- a block of an inode that is there
pub block_set : (c : TreeCells) (ino block h : ℕ) (bytes : List ℕ) (bs : Blocks) → is_some (lookup (is_at (nat_cmp ino)) (seen_cells c.inodes.entries)) ≡ true → bs ≡ with_block (seen_cells c.blocks.entries) ino block bytes → h ≡ max c.highest ino
    → ◌≡◌ {A = Tree} (record { inodes = seen_cells c.inodes.entries; blocks = bs; entries = entries_of_names (seen_cells c.entries.entries); highest = h }) (applied (tree_of_cells c) (SetBlock ino block bytes))
block_set c ino block h bytes bs there is top = rw there (tree_same _ _ _ _ _ _ _ _ refl is refl top)

-- a block and then its inode, where the group has the inode in front
pub page_set : (old was mid new : Tree) (page : PageNode) (inode : Inode) (bytes : List ℕ) → inode ≡ page.inode → bytes ≡ page.bytes → was ≡ old → mid ≡ record was { blocks = with_block was.blocks page.ino page.block bytes }
    → new ≡ applied mid (SetInode page.ino inode) → new ≡ apply old (page_group page)
page_set old was mid new page inode bytes i b w m n =
    let set : Tree → Inode → List ℕ → Tree = λ t i b. applied (record t { blocks = with_block t.blocks page.ino page.block b }) (SetInode page.ino i) in
    let here : is_some (lookup (is_at (nat_cmp page.ino)) (insert_entry nat_cmp old.inodes page.ino page.inode)) ≡ true = ap is_some (set_here nat_cmp numbers old.inodes page.ino page.inode) in
    let top : max old.highest page.ino ≡ max (max old.highest page.ino) page.ino = omega arith in
    n ∙ ap (λ t. applied t (SetInode page.ino inode)) m ∙ ap (λ t. set t inode bytes) w ∙ ap (λ i. set old i bytes) i ∙ ap (λ b. set old page.inode b) b
    ∙ rw here (tree_same _ _ _ _ _ _ _ _ refl refl refl top)

pub held_there : {V : Type 0} (o : Option (Bor V)) (found : Option V) (none : Bool) → option_copied o ≡ found → is_some o ≡ not none → none ≡ false → is_some found ≡ true
held_there None found none e n h = absurd (false≢true (n ∙ ap not h))
held_there (Some x) found none e n h = ap is_some (sym e)

-- keys that stay keep their cells
pub keeps_keys : {K V : Type 0} (cmp : K → K → Ordering) (cells new : List (K × Option V)) → keys_of new ≡ keys_of cells → KeepsCells cmp cells new
keeps_keys cmp cells new e = λ key h. has-same (is_at (cmp key)) cells new e ∙ h

pub blocks_cut : (c : TreeCells) (m : BTreeMap (ℕ × ℕ) (Option (List ℕ))) (ino old_size size freed h : ℕ) → seen_cells m.entries ≡ cut_blocks (seen_cells c.blocks.entries) ino size → keys_of m.entries ≡ keys_of c.blocks.entries
    → sum_by block_bytes (values_of (seen_cells m.entries)) + freed ≡ sum_by block_bytes (values_of (seen_cells c.blocks.entries)) → AreCellsCounted c → h ≡ max c.highest ino
    → (freed ≤ c.bytes) × Makes c (record { inodes = c.inodes; blocks = m; entries = c.entries; highest = h; bytes = c.bytes - freed; orphans = c.orphans }) (applied (tree_of_cells c) (CutBlocks ino old_size size)) 0
blocks_cut c m ino old_size size freed h cut keys sum counted top = (
  omega (arith, sum, counted.0),
  record {
    tree = tree_same _ _ _ _ _ _ _ _ refl cut refl top;
    counted = (omega (arith, sum, counted.0), counted.1);
    bytes = omega arith;
    room = record { inodes = λ k g. g; blocks = keeps_keys pair_cmp _ _ keys; entries = λ k g. g };
  },
)

all_past : (a : Bool) (n : ℕ) → not (a && nat_le 0 n) ≡ not a
all_past true n = let t : nat_le 0 n ≡ true = grind (arith, nat_tests) in rw t refl
all_past false n = refl

cut_all : (bs : Blocks) (ino : ℕ) → cut_blocks bs ino 0 ≡ without_blocks bs ino
cut_all bs ino = filter_agree (λ b. not ((b.0.0 == ino) && nat_le 0 (4096 * b.0.1))) (λ b. not (b.0.0 == ino)) (λ b. all_past (b.0.0 == ino) (4096 * b.0.1)) bs

-- inodes without a name, as a sum
named_none : (es : Inodes) → length (keys_of (filter (λ e. e.1.nlink == 0) es)) ≡ sum_by orphans_in (values_of es)
named_none [] = refl
named_none (e ∷ es) = by (named_none es) (e.1.nlink == 0) ∙ sym (sum_by-cons orphans_in e.1 (values_of es))
  where
    by : length (keys_of (filter (λ e. e.1.nlink == 0) es)) ≡ sum_by orphans_in (values_of es) → (b : Bool)
        → length (keys_of (cond b (e ∷ filter (λ e. e.1.nlink == 0) es) (filter (λ e. e.1.nlink == 0) es))) ≡ cond b 1 0 + sum_by orphans_in (values_of es)
    by more true = let one : suc (sum_by orphans_in (values_of es)) ≡ 1 + sum_by orphans_in (values_of es) = omega arith in ap suc more ∙ one
    by more false = let same : sum_by orphans_in (values_of es) ≡ 0 + sum_by orphans_in (values_of es) = omega arith in more ∙ same

-- no more than the bytes of inodes' nodes
one_of_bytes : (inode : Inode) → orphans_in inode ≤ inode_bytes inode
one_of_bytes inode = by (inode.nlink == 0)
  where
    by : (b : Bool) → cond b 1 0 ≤ inode_bytes inode
    by true = omega arith
    by false = omega arith

orphans_of_bytes : (es : List Inode) → sum_by orphans_in es ≤ sum_by inode_bytes es
orphans_of_bytes es = sum_by-le-sum_by orphans_in inode_bytes es one_of_bytes

-- an inode more without a name is a number still
pub few_orphans : (c : TreeCells) (inode : Inode) → c.orphans ≡ length (nameless (tree_of_cells c)) → c.bytes ≡ tree_bytes (tree_of_cells c) → c.orphans + orphans_in inode ≤ c.bytes + inode_bytes inode
few_orphans c inode orphans bytes =
    let sum = named_none (seen_cells c.inodes.entries) in
    let few = orphans_of_bytes (values_of (seen_cells c.inodes.entries)) in
    let one = one_of_bytes inode in
    omega (arith, orphans, bytes, sum, few, one)

-- an inode set, and the one that it replaces
pub orphans_set : (cells new : List (ℕ × Option Inode)) (ino : ℕ) (inode : Inode) (old : Option Inode) (lost before : ℕ) → IsStrictlySortedBy nat_cmp (keys_of cells) → has_cell nat_cmp cells ino ≡ true
    → new ≡ set_value (is_at (nat_cmp ino)) cells (Some inode) → old ≡ lookup (is_at (nat_cmp ino)) (seen_cells cells) → lost ≡ unwrap_or (option_map orphans_in old) 0 → before ≡ length (keys_of (filter (λ e. e.1.nlink == 0) (seen_cells cells)))
    → (lost ≤ before + orphans_in inode) × (before + orphans_in inode - lost ≡ length (keys_of (filter (λ e. e.1.nlink == 0) (seen_cells new))))
orphans_set cells new ino inode old lost before s has put there gone told =
    let counts = set_counts nat_cmp_total exact_unsigned orphans_in cells new ino inode old s has put there in
    let was = named_none (seen_cells cells) in
    let is = named_none (seen_cells new) in (
      omega (arith, counts, was, is, gone, told),
      omega (arith, counts, was, is, gone, told),
    )

-- an inode less
pub orphans_less : (cells new : List (ℕ × Option Inode)) (ino : ℕ) (old : Option Inode) (lost before : ℕ) → IsStrictlySortedBy nat_cmp (keys_of cells)
    → new ≡ set_value (is_at (nat_cmp ino)) cells None → old ≡ lookup (is_at (nat_cmp ino)) (seen_cells cells) → lost ≡ unwrap_or (option_map orphans_in old) 0 → before ≡ length (keys_of (filter (λ e. e.1.nlink == 0) (seen_cells cells)))
    → lost ≤ before
orphans_less cells new ino old lost before s put there gone told =
    let counts = drop_counts nat_cmp_total orphans_in cells new ino old s put there in
    let was = named_none (seen_cells cells) in
    omega (arith, counts, was, gone, told)

orphans_dropped : (cells new : List (ℕ × Option Inode)) (ino : ℕ) (old : Option Inode) (lost before : ℕ) → IsStrictlySortedBy nat_cmp (keys_of cells)
    → new ≡ set_value (is_at (nat_cmp ino)) cells None → old ≡ lookup (is_at (nat_cmp ino)) (seen_cells cells) → lost ≡ unwrap_or (option_map orphans_in old) 0 → before ≡ length (keys_of (filter (λ e. e.1.nlink == 0) (seen_cells cells)))
    → before - lost ≡ length (keys_of (filter (λ e. e.1.nlink == 0) (seen_cells new)))
orphans_dropped cells new ino old lost before s put there gone told =
    let counts = drop_counts nat_cmp_total orphans_in cells new ino old s put there in
    let was = named_none (seen_cells cells) in
    let is = named_none (seen_cells new) in
    omega (arith, counts, was, is, gone, told)

pub inode_dropped : (c : TreeCells) (m : BTreeMap ℕ (Option Inode)) (n : BTreeMap (ℕ × ℕ) (Option (List ℕ))) (ino : ℕ) (old : Option Inode) (freed gone lost h : ℕ) → IsStrictlySortedBy nat_cmp (keys_of c.inodes.entries)
    → m.entries ≡ set_value (is_at (nat_cmp ino)) c.inodes.entries None → old ≡ lookup (is_at (nat_cmp ino)) (seen_cells c.inodes.entries) → freed ≡ unwrap_or (option_map inode_bytes old) 0
    → seen_cells n.entries ≡ cut_blocks (seen_cells c.blocks.entries) ino 0 → keys_of n.entries ≡ keys_of c.blocks.entries → sum_by block_bytes (values_of (seen_cells n.entries)) + gone ≡ sum_by block_bytes (values_of (seen_cells c.blocks.entries)) → lost ≡ unwrap_or (option_map orphans_in old) 0 → AreCellsCounted c → h ≡ max c.highest ino
    → (freed + gone ≤ c.bytes) × Makes c (record { inodes = m; blocks = n; entries = c.entries; highest = h; bytes = c.bytes - freed - gone; orphans = c.orphans - lost }) (applied (tree_of_cells c) (DropInode ino)) 0
inode_dropped c m n ino old freed gone lost h s put there less cut keys sum gone_orphans counted top =
    let counts = drop_counts nat_cmp_total inode_bytes c.inodes.entries m.entries ino old s put there in (
      omega (arith, counts, less, sum, counted.0),
      record {
        tree = tree_same _ _ _ _ _ _ _ _ (ap seen_cells put ∙ seen-emptied nat_cmp_total c.inodes.entries ino s) (cut ∙ cut_all (seen_cells c.blocks.entries) ino) refl top;
        counted = (omega (arith, counts, less, sum, counted.0), orphans_dropped c.inodes.entries m.entries ino old lost c.orphans s put there gone_orphans counted.1);
        bytes = omega arith;
        room = record { inodes = keeps_put nat_cmp _ _ _ _ put; blocks = keeps_keys pair_cmp _ _ keys; entries = λ k g. g };
      },
    )

pub cut_made : (c new : TreeCells) (ino old_size size : ℕ) (change : Change) → change ≡ CutBlocks ino old_size size → Makes c new (applied (tree_of_cells c) (CutBlocks ino old_size size)) 0 → Makes c new (applied (tree_of_cells c) change) (set_bytes change)
cut_made c new ino old_size size change is h = let P : Change → Type 0 = λ z. Makes c new (applied (tree_of_cells c) z) (set_bytes z) in subst P (sym is) h

-- a change that has its cell has it still
room_kept : (old new : TreeCells) → KeepsRoom old new → (change : Change) → HasCellRoom old change → HasCellRoom new change
room_kept old new k (SetInode ino inode) h = k.inodes ino h
room_kept old new k (SetEntry entry) h = k.entries (entry.dir, entry.name) h
room_kept old new k (DropEntry dir name) h = tt
room_kept old new k (SetBlock ino block bytes) h = k.blocks (ino, block) h
room_kept old new k (CutBlocks ino old_size size) h = tt
room_kept old new k (DropInode ino) h = tt

pub rooms_kept : (old new : TreeCells) → KeepsRoom old new → (changes : List Change) → AllByRecursion (HasCellRoom old) changes → AllByRecursion (HasCellRoom new) changes
rooms_kept old new k [] h = tt
rooms_kept old new k (change ∷ changes) h = (room_kept old new k change h.0, rooms_kept old new k changes h.1)

pub keeps_all : (old mid new : TreeCells) → KeepsRoom old mid → KeepsRoom mid new → KeepsRoom old new
keeps_all old mid new a b = record { inodes = λ k h. b.inodes k (a.inodes k h); blocks = λ k h. b.blocks k (a.blocks k h); entries = λ k h. b.entries k (a.entries k h) }

-- The live nodes of a tree as the changes that they carry, each shown by its node.
use Rattle.std.proofs.Common.{◌≡◌, ◌++◌, ◌<◌, ◌≤◌, ℕ, Bool, true, false, cond, not, ◌&&◌, List, [], ◌∷◌, map, refl, ap, subst, ◌∙◌, arith, Option, Some, None}
use Rattle.std.specs.Prelude.{◌==◌, filter, fold}
use Rattle.std.specs.Bool.{IsTrue}
use Rattle.std.specs.BTreeMap.{insert_entry}
use Rattle.std.specs.List.{AllByRecursion, flat_map, list_all}
use Rattle.std.specs.Map.{values_of}
use Rattle.std.specs.Option.{option_map, option_map_or}
use Rattle.std.specs.Cmp.Lexicographic.{slice_cmp}
use Rattle.std.specs.Ordering.{is_eq, match_ordering, nat_cmp}
use Rattle.std.specs.declared.cmp.Ordering.{Ordering}
use Rattle.std.specs.declared.cmp.Ordering.TheVariants.{Less, Equal, Greater}
use Rattle.std.proofs.lemmas.Bool.{false≢true, and_from, and_parts, eqb-true}
use Rattle.std.proofs.lemmas.Map.Lookups.{exact_bytes}
use Rattle.std.proofs.lemmas.Bool.Decides.{nat_tests}
use Rattle.std.proofs.lemmas.List.{map-append}
use Rattle.ubifs_base.specs.R5.{r5_of}
use Rattle.fs_model.specs.declared.change.Change.{Change}
use Rattle.fs_model.specs.declared.change.Change.TheVariants.{SetInode, SetEntry, SetBlock}
use Rattle.fs_model.specs.declared.inode.Entry.{Entry}
use Rattle.fs_model.specs.declared.inode.Inode.{Inode}
use Rattle.fs_model.specs.declared.inode.Kind.{Kind}
use Rattle.fs_model.specs.declared.inode.Kind.TheVariants.{Dir}
use Rattle.fs_model.specs.Directory.{by_hash, entries_in}
use Rattle.fs_model.specs.Files.{Blocks, Inodes, Tree, inode_at, name_cmp}
use Rattle.fs_model.specs.Path.{is_same_name}
use Rattle.fs_model.specs.Proper.{IsProper, has_kind, is_entry_node, is_inode_node, is_name, is_sound_entry, are_words, same_kind}
use Rattle.fs_laws.specs.Maps.{all_at}
use Rattle.fs_laws.specs.Orders.{numbers}
use Rattle.group_nodes.specs.NodeLaws.{inode_numbered, plain_mode, node_carries, bits_are, mode_is, bits_say}
use Rattle.group_nodes.specs.Nodes.{inode_node, inode_of, kind_of_bits, node_of}
use Rattle.leaf_map.specs.Kept.{shown}
use Rattle.image_maker.specs.Leaves.{block_leaf, entry_leaf, leaf_nodes_of}
use Rattle.tree_nodes.specs.Stored.{as_stored}

-- the change that a block's node carries
abbrev pub set_block : (ℕ × ℕ) × List ℕ → Change
set_block b = SetBlock b.0.0 b.0.1 b.1

-- the changes that the nodes of an inode carry
abbrev pub changes_of : Tree → ℕ × Inode → List Change
changes_of tree e =
    SetInode e.0 (as_stored tree e).1
    ∷ (map set_block (filter (λ stored. stored.0.0 == e.0) tree.blocks) ++ map SetEntry (by_hash (entries_in tree e.0)))

-- of all of these inodes
abbrev pub changes_from : Tree → Inodes → List Change
changes_from tree inodes = flat_map (changes_of tree) inodes

blocks_are : (bs : Blocks) → map node_of (map set_block bs) ≡ map block_leaf bs
blocks_are [] = refl
blocks_are (b ∷ bs) = ap (λ z. block_leaf b ∷ z) (blocks_are bs)

entries_are : (es : List Entry) → map node_of (map SetEntry es) ≡ map entry_leaf es
entries_are [] = refl
entries_are (e ∷ es) = ap (λ z. entry_leaf e ∷ z) (entries_are es)

leaves_are : (tree : Tree) (e : ℕ × Inode) → map node_of (changes_of tree e) ≡ leaf_nodes_of tree e
leaves_are tree e =
    let blocks = filter (λ (stored : (ℕ × ℕ) × List ℕ). stored.0.0 == e.0) tree.blocks in
    let entries = by_hash (entries_in tree e.0) in
    ap (λ z. node_of (SetInode e.0 (as_stored tree e).1) ∷ z)
    (map-append node_of (map set_block blocks) (map SetEntry entries) ∙ ap (λ z. z ++ map node_of (map SetEntry entries)) (blocks_are blocks) ∙ ap (λ z. map block_leaf blocks ++ z) (entries_are entries))

-- the live nodes are those of these changes
pub nodes_of_changes : (tree : Tree) (inodes : Inodes) → map node_of (changes_from tree inodes) ≡ flat_map (leaf_nodes_of tree) inodes
nodes_of_changes tree [] = refl
nodes_of_changes tree (e ∷ inodes) =
    map-append node_of (changes_of tree e) (changes_from tree inodes) ∙ ap (λ z. z ++ map node_of (changes_from tree inodes)) (leaves_are tree e) ∙ ap (λ z. leaf_nodes_of tree e ++ z) (nodes_of_changes tree inodes)

-- ---- each is shown by its node
-- the node of a change shows it
abbrev pub IsShownSo : Change → Type 0
IsShownSo c = shown (node_of c) ≡ Some c

pub all_append : {X : Type 0} (P : X → Type 0) (xs ys : List X) → AllByRecursion P xs → AllByRecursion P ys → AllByRecursion P (xs ++ ys)
all_append P [] ys h k = k
all_append P (x ∷ xs) ys h k = (h.0, all_append P xs ys h.1 k)

inode_shown : (ino : ℕ) (node : Inode) → node.mode < 4096 → IsShownSo (SetInode ino node)
inode_shown ino node small =
    ap (λ (bits : ℕ). option_map (λ kind. SetInode ino (inode_of (inode_node ino node) kind)) (kind_of_bits bits)) (bits_are node.kind node.mode small)
    ∙ ap (λ (k : Option Kind). option_map (λ kind. SetInode ino (inode_of (inode_node ino node) kind)) k) (bits_say node.kind)
    ∙ ap (λ (m : ℕ). Some (SetInode ino (record node { mode = m }))) (mode_is node.kind node.mode small)

blocks_shown : (bs : Blocks) → AllByRecursion IsShownSo (map set_block bs)
blocks_shown [] = tt
blocks_shown (b ∷ bs) = (refl, blocks_shown bs)

-- an entry has its own key, and names an inode
abbrev pub IsNamed : Entry → Type 0
IsNamed e = IsTrue (is_entry_node ((e.dir, e.name), e) && not (e.ino == 0))

entries_shown : (es : List Entry) → AllByRecursion IsNamed es → AllByRecursion IsShownSo (map SetEntry es)
entries_shown [] h = tt
entries_shown (e ∷ es) h = (node_carries (SetEntry e) h.0, entries_shown es h.1)

-- what holds of entries holds of those of a directory
pub all_filter : {X : Type 0} (P : X → Type 0) (test : X → Bool) (xs : List X) → AllByRecursion P xs → AllByRecursion P (filter test xs)
all_filter P test [] h = tt
all_filter {X} P test (x ∷ xs) h = by (test x) (all_filter P test xs h.1)
  where
    by : (b : Bool) → AllByRecursion P (filter test xs) → AllByRecursion P (cond b (x ∷ filter test xs) (filter test xs))
    by true more = (h.0, more)
    by false more = more

-- and of entries in order of hash
pub all_insert : {X : Type 0} (P : X → Type 0) (rows : List ((ℕ × List ℕ) × X)) (k : ℕ × List ℕ) (e : X) → AllByRecursion P (values_of rows) → P e → AllByRecursion P (values_of (insert_entry name_cmp rows k e))
all_insert P [] k e h is = (is, tt)
all_insert {X} P (r ∷ rows) k e h is = by (all_insert P rows k e h.1 is) (name_cmp k r.0)
  where
    by : AllByRecursion P (values_of (insert_entry name_cmp rows k e)) → (o : Ordering) → AllByRecursion P (values_of (match_ordering o ((k, e) ∷ r ∷ rows) ((r.0, e) ∷ rows) (r ∷ insert_entry name_cmp rows k e)))
    by more Less = (is, h)
    by more Equal = (is, h.1)
    by more Greater = (h.0, more)

all_sorted : (P : Entry → Type 0) (rows : List ((ℕ × List ℕ) × Entry)) (entries : List Entry) → AllByRecursion P (values_of rows) → AllByRecursion P entries
    → AllByRecursion P (values_of (fold (λ sorted e. insert_entry name_cmp sorted (r5_of e.name, e.name) e) rows entries))
all_sorted P rows [] h all = h
all_sorted P rows (e ∷ entries) h all = all_sorted P (insert_entry name_cmp rows (r5_of e.name, e.name) e) entries (all_insert P rows (r5_of e.name, e.name) e h all.0) all.1

pub all_by_hash : (P : Entry → Type 0) (entries : List Entry) → AllByRecursion P entries → AllByRecursion P (by_hash entries)
all_by_hash P entries h = all_sorted P [] entries tt h

changes_shown : (tree : Tree) (inodes : Inodes) → list_all is_inode_node inodes ≡ true → AllByRecursion IsNamed (values_of tree.entries) → AllByRecursion IsShownSo (changes_from tree inodes)
changes_shown tree [] h named = tt
changes_shown tree (e ∷ inodes) h named =
    let parts = and_parts (is_inode_node e) (list_all is_inode_node inodes) h in
    let blocks = map set_block (filter (λ (stored : (ℕ × ℕ) × List ℕ). stored.0.0 == e.0) tree.blocks) in
    let entries = by_hash (entries_in tree e.0) in
    let here = entries_shown entries (all_by_hash IsNamed (entries_in tree e.0) (all_filter IsNamed (λ (x : Entry). x.dir == e.0) (values_of tree.entries) named)) in
    all_append IsShownSo (changes_of tree e) (changes_from tree inodes)
    (inode_shown e.0 (as_stored tree e).1 (plain_mode e parts.0), all_append IsShownSo blocks (map SetEntry entries) (blocks_shown (filter (λ (stored : (ℕ × ℕ) × List ℕ). stored.0.0 == e.0) tree.blocks)) here)
    (changes_shown tree inodes parts.1 named)

-- names that are told as the same are
pub name_is : (a b : List ℕ) → is_same_name a b ≡ true → a ≡ b
name_is a b h = by (slice_cmp nat_cmp a b) refl h
  where
    by : (o : Ordering) → slice_cmp nat_cmp a b ≡ o → is_eq o ≡ true → a ≡ b
    by Less e t = absurd (false≢true t)
    by Equal e t = exact_bytes a b e
    by Greater e t = absurd (false≢true t)

-- an entry is kept at its own directory and name
pub own_key : (e : (ℕ × List ℕ) × Entry) → is_entry_node e ≡ true → e.0 ≡ (e.1.dir, e.1.name)
own_key e h =
    let p = and_parts (e.0.0 == e.1.dir) (is_same_name e.0.1 e.1.name) (and_parts _ (is_name e.1.name) (and_parts _ (are_words (e.1.dir ∷ e.1.ino ∷ [])) h).0).0 in
    ap (λ (n : ℕ). (n, e.0.1)) (eqb-true e.0.0 e.1.dir p.0) ∙ ap (λ (name : List ℕ). (e.1.dir, name)) (name_is e.0.1 e.1.name p.1)

-- an inode that is there has a number
ino_some : (tree : Tree) → list_all is_inode_node tree.inodes ≡ true → (ino : ℕ) (kind : Kind) → has_kind tree ino kind ≡ true → not (ino == 0) ≡ true
ino_some tree h ino kind is = by (inode_at tree ino) refl is
  where
    lt_some : (n : ℕ) → 1 ≤ n → not (n == 0) ≡ true
    lt_some n l = grind (arith, nat_tests)

    some : (n : ℕ) → (i : Inode) → is_inode_node (n, i) ≡ true → not (n == 0) ≡ true
    some n i t = lt_some n (inode_numbered (n, i) t)

    by : (o : Option Inode) → inode_at tree ino ≡ o → option_map_or (λ (inode : Inode). same_kind inode.kind kind) o false ≡ true → not (ino == 0) ≡ true
    by None e t = absurd (false≢true t)
    by (Some i) e t = some ino i (all_at nat_cmp numbers is_inode_node tree.inodes ino i h e)

named_from : (tree : Tree) (es : List ((ℕ × List ℕ) × Entry)) → list_all is_inode_node tree.inodes ≡ true → list_all is_entry_node es ≡ true → list_all (is_sound_entry tree) (values_of es) ≡ true → AllByRecursion IsNamed (values_of es)
named_from tree [] i n s = tt
named_from tree (e ∷ es) i n s = (first, named_from tree es i np.1 sp.1)
  where
    np : (is_entry_node e ≡ true) × (list_all is_entry_node es ≡ true)
    np = and_parts (is_entry_node e) (list_all is_entry_node es) n

    sp : (is_sound_entry tree e.1 ≡ true) × (list_all (is_sound_entry tree) (values_of es) ≡ true)
    sp = and_parts (is_sound_entry tree e.1) (list_all (is_sound_entry tree) (values_of es)) s

    first : IsNamed e.1
    first =
        let own : is_entry_node ((e.1.dir, e.1.name), e.1) ≡ true = subst (λ k. is_entry_node (k, e.1) ≡ true) (own_key e np.0) np.0 in
        let there = (and_parts (has_kind tree e.1.dir Dir) (has_kind tree e.1.ino e.1.kind) (and_parts _ (not (e.1.ino == 1)) sp.0).0).1 in
        and_from (is_entry_node ((e.1.dir, e.1.name), e.1)) (not (e.1.ino == 0)) own (ino_some tree i e.1.ino e.1.kind there)

pub names_named : (tree : Tree) → IsProper tree → AllByRecursion IsNamed (values_of tree.entries)
names_named tree p = named_from tree tree.entries p.inode_nodes p.entry_nodes p.entries

-- each live node shows what it carries
pub live_shown : (tree : Tree) → IsProper tree → AllByRecursion IsShownSo (changes_from tree tree.inodes)
live_shown tree p = changes_shown tree tree.inodes p.inode_nodes (names_named tree p)

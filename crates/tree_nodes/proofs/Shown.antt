-- Nodes that show these changes: the leaves of an index, and what the lists of their tree are.
use Rattle.std.proofs.Common.{◌≡◌, ◌++◌, ◌≤◌, ℕ, true, false, not, List, [], ◌∷◌, map, refl, sym, ap, subst, ◌∙◌, arith, Some}
use Rattle.std.specs.Prelude.{⊤, ◌==◌, nat_le, filter}
use Rattle.std.specs.BTreeMap.{insert_entry}
use Rattle.std.specs.List.{AllByRecursion, flat_map, list_all}
use Rattle.std.proofs.lemmas.Bool.{and_from, le-leb}
use Rattle.index_tree.specs.Order.{key_rank, leaf_rank, ordered_from}
use Rattle.fs_model.specs.declared.change.Change.{Change}
use Rattle.fs_model.specs.declared.change.Change.TheVariants.{SetInode, SetEntry, SetBlock}
use Rattle.fs_model.specs.declared.inode.Entry.{Entry}
use Rattle.fs_model.specs.Directory.{by_hash, entries_in}
use Rattle.fs_model.specs.Files.{Blocks, Entries, Inodes, Tree, name_cmp}
use Rattle.group_nodes.specs.Nodes.{node_of}
use Rattle.leaf_map.specs.Kept.{Placed, kept_at, node_key, shown, shown_by}
use Rattle.leaf_map.specs.LeafMap.{HasKeyOf, IsKeyed, IsLeafMap, are_apart, shows_same}
use Rattle.leaf_map.specs.Shown.{blocks_shown_by, entries_of, inodes_of, with_shown_block, with_entry, with_shown_inode}
use Rattle.tree_nodes.specs.Stored.{as_stored}
use Rattle.tree_nodes.proofs.Before.{AreBefore, IsBefore, IsOf, place_of}
use Rattle.tree_nodes.proofs.Changes.{IsShownSo, changes_from, set_block}

-- each node is that of a change, and shows it
abbrev pub AreShown : List Placed → List Change → Type 0
AreShown [] [] = ⊤
AreShown [] (c ∷ cs) = ⊥
AreShown (x ∷ nodes) [] = ⊥
AreShown (x ∷ nodes) (c ∷ cs) = (x.node ≡ node_of c) × (shown x.node ≡ Some c) × AreShown nodes cs

pub are_shown : (nodes : List Placed) (cs : List Change) → map (λ x. x.node) nodes ≡ map node_of cs → AllByRecursion IsShownSo cs → AreShown nodes cs
are_shown [] [] e h = tt
are_shown [] (c ∷ cs) e h = absurd cc
are_shown (x ∷ nodes) [] e h = absurd cc
are_shown (x ∷ nodes) (c ∷ cs) e h =
    let first : x.node ≡ node_of c = cc in
    let rest : map (λ x. x.node) nodes ≡ map node_of cs = cc in
    (first, ap shown first ∙ h.0, are_shown nodes cs rest h.1)

-- ---- leaves of an index
-- of some inode
abbrev pub IsOfSome : Change → Type 0
IsOfSome c = (ino : ℕ) × IsOf ino c

has_key : (x : Placed) (c : Change) (ino : ℕ) → IsOf ino c → node_key x.node ≡ node_key (node_of c) → HasKeyOf (kept_at x).leaf (Some c)
has_key x (SetInode n i) ino h e = e
has_key x (SetBlock n k b) ino h e = (e, h.1)
has_key x (SetEntry f) ino h e = e
has_key x c ino h e = absurd h

all_keyed : (nodes : List Placed) (cs : List Change) → AreShown nodes cs → AllByRecursion IsOfSome cs → AllByRecursion IsKeyed (map kept_at nodes)
all_keyed [] [] s h = tt
all_keyed [] (c ∷ cs) s h = absurd s
all_keyed (x ∷ nodes) [] s h = absurd s
all_keyed (x ∷ nodes) (c ∷ cs) s h = (subst (HasKeyOf (kept_at x).leaf) (sym s.1) (has_key x c h.0.0 h.0.1 (ap node_key s.0)), all_keyed nodes cs s.2 h.1)

rank_is : (c : Change) (ino : ℕ) → IsOf ino c → key_rank (node_key (node_of c)) ≡ place_of c
unfolding key_rank
rank_is (SetInode n i) ino h = omega arith
rank_is (SetBlock n k b) ino h = omega arith
rank_is (SetEntry f) ino h = omega arith
rank_is c ino h = absurd h

placed_behind : (c : Change) (low : ℕ) (cs : List Change) → low ≡ place_of c → AllByRecursion (IsBefore c) cs → AllByRecursion (λ d. low ≤ place_of d) cs
placed_behind c low [] e h = tt
placed_behind c low (d ∷ cs) e h = let p = h.0.place in (omega (arith, e, p), placed_behind c low cs e h.1)

all_ordered : (low : ℕ) (nodes : List Placed) (cs : List Change) → AreShown nodes cs → AllByRecursion IsOfSome cs → AreBefore cs → AllByRecursion (λ d. low ≤ place_of d) cs → ordered_from low (map (λ x. x.leaf) (map kept_at nodes)) ≡ true
all_ordered low [] [] s h b l = refl
all_ordered low [] (c ∷ cs) s h b l = absurd s
all_ordered low (x ∷ nodes) [] s h b l = absurd s
all_ordered low (x ∷ nodes) (c ∷ cs) s h b l =
    let rank : leaf_rank (kept_at x).leaf ≡ place_of c = ap (λ n. key_rank (node_key n)) s.0 ∙ rank_is c h.0.0 h.0.1 in
    let first = l.0 in
    and_from (nat_le low (leaf_rank (kept_at x).leaf)) (ordered_from (leaf_rank (kept_at x).leaf) (map (λ x. x.leaf) (map kept_at nodes)))
    (le-leb low (leaf_rank (kept_at x).leaf) (omega (arith, rank, first)))
    (all_ordered (leaf_rank (kept_at x).leaf) nodes cs s.2 h.1 b.1 (placed_behind c (leaf_rank (kept_at x).leaf) cs rank b.0))

apart_from : (x : Placed) (c : Change) (nodes : List Placed) (cs : List Change) → shown x.node ≡ Some c → AreShown nodes cs → AllByRecursion (IsBefore c) cs
    → list_all (λ y. not (shows_same (shown x.node) (shown_by y))) (map kept_at nodes) ≡ true
apart_from x c [] [] e s b = refl
apart_from x c [] (d ∷ cs) e s b = absurd s
apart_from x c (y ∷ nodes) [] e s b = absurd s
apart_from x c (y ∷ nodes) (d ∷ cs) e s b =
    let same : shows_same (shown x.node) (shown y.node) ≡ false = ap (λ o. shows_same o (shown y.node)) e ∙ ap (shows_same (Some c)) s.1 ∙ b.0.apart in
    and_from (not (shows_same (shown x.node) (shown y.node))) (list_all (λ y. not (shows_same (shown x.node) (shown_by y))) (map kept_at nodes)) (ap not same) (apart_from x c nodes cs e s.2 b.1)

all_apart : (nodes : List Placed) (cs : List Change) → AreShown nodes cs → AreBefore cs → are_apart (map kept_at nodes) ≡ true
all_apart [] [] s b = refl
all_apart [] (c ∷ cs) s b = absurd s
all_apart (x ∷ nodes) [] s b = absurd s
all_apart (x ∷ nodes) (c ∷ cs) s b =
    and_from (list_all (λ y. not (shows_same (shown x.node) (shown_by y))) (map kept_at nodes)) (are_apart (map kept_at nodes)) (apart_from x c nodes cs s.1 s.2 b.0) (all_apart nodes cs s.2 b.1)

all_above : (cs : List Change) → AllByRecursion (λ d. 0 ≤ place_of d) cs
all_above [] = tt
all_above (c ∷ cs) = (omega arith, all_above cs)

pub leaf_map : (nodes : List Placed) (cs : List Change) → AreShown nodes cs → AllByRecursion IsOfSome cs → AreBefore cs → IsLeafMap (map kept_at nodes)
leaf_map nodes cs s h b = record { keyed = all_keyed nodes cs s h; ordered = all_ordered 0 nodes cs s h b (all_above cs); apart = all_apart nodes cs s b }

-- ---- the lists of the tree
abbrev inodes_in : List Change → Inodes
inodes_in [] = []
inodes_in (c ∷ cs) = with_shown_inode (Some c) (inodes_in cs)

abbrev blocks_in : List Change → Blocks
blocks_in [] = []
blocks_in (c ∷ cs) = with_shown_block (Some c) (blocks_in cs)

abbrev names_in : List Change → Entries
names_in [] = []
names_in (c ∷ cs) = with_entry (Some c) (names_in cs)

inodes_shown : (nodes : List Placed) (cs : List Change) → AreShown nodes cs → inodes_of (map kept_at nodes) ≡ inodes_in cs
inodes_shown [] [] s = refl
inodes_shown [] (c ∷ cs) s = absurd s
inodes_shown (x ∷ nodes) [] s = absurd s
inodes_shown (x ∷ nodes) (c ∷ cs) s = ap (λ o. with_shown_inode o (inodes_of (map kept_at nodes))) s.1 ∙ ap (with_shown_inode (Some c)) (inodes_shown nodes cs s.2)

blocks_shown : (nodes : List Placed) (cs : List Change) → AreShown nodes cs → blocks_shown_by (map kept_at nodes) ≡ blocks_in cs
blocks_shown [] [] s = refl
blocks_shown [] (c ∷ cs) s = absurd s
blocks_shown (x ∷ nodes) [] s = absurd s
blocks_shown (x ∷ nodes) (c ∷ cs) s = ap (λ o. with_shown_block o (blocks_shown_by (map kept_at nodes))) s.1 ∙ ap (with_shown_block (Some c)) (blocks_shown nodes cs s.2)

names_shown : (nodes : List Placed) (cs : List Change) → AreShown nodes cs → entries_of (map kept_at nodes) ≡ names_in cs
names_shown [] [] s = refl
names_shown [] (c ∷ cs) s = absurd s
names_shown (x ∷ nodes) [] s = absurd s
names_shown (x ∷ nodes) (c ∷ cs) s = ap (λ o. with_entry o (entries_of (map kept_at nodes))) s.1 ∙ ap (with_entry (Some c)) (names_shown nodes cs s.2)

-- the inodes
skip_entries : (es : List Entry) (rest : List Change) → inodes_in (map SetEntry es ++ rest) ≡ inodes_in rest
skip_entries [] rest = refl
skip_entries (e ∷ es) rest = skip_entries es rest

skip_blocks : (bs : Blocks) (es : List Entry) (rest : List Change) → inodes_in ((map set_block bs ++ map SetEntry es) ++ rest) ≡ inodes_in rest
skip_blocks [] es rest = skip_entries es rest
skip_blocks (b ∷ bs) es rest = skip_blocks bs es rest

inodes_are : (tree : Tree) (inodes : Inodes) → inodes_in (changes_from tree inodes) ≡ map (as_stored tree) inodes
inodes_are tree [] = refl
inodes_are tree (e ∷ inodes) =
    ap (λ z. as_stored tree e ∷ z) (skip_blocks (filter (λ (stored : (ℕ × ℕ) × List ℕ). stored.0.0 == e.0) tree.blocks) (by_hash (entries_in tree e.0)) (changes_from tree inodes) ∙ inodes_are tree inodes)

pub inodes_found : (tree : Tree) (nodes : List Placed) → AreShown nodes (changes_from tree tree.inodes) → inodes_of (map kept_at nodes) ≡ map (as_stored tree) tree.inodes
inodes_found tree nodes s = inodes_shown nodes (changes_from tree tree.inodes) s ∙ inodes_are tree tree.inodes

-- the blocks, inode by inode
abbrev pub blocks_by : Tree → Inodes → Blocks
blocks_by tree inodes = flat_map (λ e. filter (λ stored. stored.0.0 == e.0) tree.blocks) inodes

past_entries : (es : List Entry) (rest : List Change) → blocks_in (map SetEntry es ++ rest) ≡ blocks_in rest
past_entries [] rest = refl
past_entries (e ∷ es) rest = past_entries es rest

take_blocks : (bs : Blocks) (es : List Entry) (rest : List Change) → blocks_in ((map set_block bs ++ map SetEntry es) ++ rest) ≡ bs ++ blocks_in rest
take_blocks [] es rest = past_entries es rest
take_blocks (b ∷ bs) es rest = ap (λ z. b ∷ z) (take_blocks bs es rest)

blocks_are : (tree : Tree) (inodes : Inodes) → blocks_in (changes_from tree inodes) ≡ blocks_by tree inodes
blocks_are tree [] = refl
blocks_are tree (e ∷ inodes) =
    let bs = filter (λ (stored : (ℕ × ℕ) × List ℕ). stored.0.0 == e.0) tree.blocks in
    take_blocks bs (by_hash (entries_in tree e.0)) (changes_from tree inodes) ∙ ap (λ z. bs ++ z) (blocks_are tree inodes)

pub blocks_found : (tree : Tree) (nodes : List Placed) → AreShown nodes (changes_from tree tree.inodes) → blocks_shown_by (map kept_at nodes) ≡ blocks_by tree tree.inodes
blocks_found tree nodes s = blocks_shown nodes (changes_from tree tree.inodes) s ∙ blocks_are tree tree.inodes

-- the names, directory by directory
abbrev pub names_by : Tree → Inodes → List Entry
names_by tree inodes = flat_map (λ e. by_hash (entries_in tree e.0)) inodes

-- entries set one after another, the last one first
abbrev pub set_all : List Entry → Entries
set_all [] = []
set_all (e ∷ es) = insert_entry name_cmp (set_all es) (e.dir, e.name) e

take_entries : (es ds : List Entry) (rest : List Change) → names_in rest ≡ set_all ds → names_in (map SetEntry es ++ rest) ≡ set_all (es ++ ds)
take_entries [] ds rest h = h
take_entries (e ∷ es) ds rest h = ap (λ z. insert_entry name_cmp z (e.dir, e.name) e) (take_entries es ds rest h)

past_blocks : (bs : Blocks) (es : List Entry) (rest : List Change) → names_in ((map set_block bs ++ map SetEntry es) ++ rest) ≡ names_in (map SetEntry es ++ rest)
past_blocks [] es rest = refl
past_blocks (b ∷ bs) es rest = past_blocks bs es rest

names_are : (tree : Tree) (inodes : Inodes) → names_in (changes_from tree inodes) ≡ set_all (names_by tree inodes)
names_are tree [] = refl
names_are tree (e ∷ inodes) =
    let es = by_hash (entries_in tree e.0) in
    past_blocks (filter (λ (stored : (ℕ × ℕ) × List ℕ). stored.0.0 == e.0) tree.blocks) es (changes_from tree inodes) ∙ take_entries es (names_by tree inodes) (changes_from tree inodes) (names_are tree inodes)

pub names_found : (tree : Tree) (nodes : List Placed) → AreShown nodes (changes_from tree tree.inodes) → entries_of (map kept_at nodes) ≡ set_all (names_by tree tree.inodes)
names_found tree nodes s = names_shown nodes (changes_from tree tree.inodes) s ∙ names_are tree tree.inodes

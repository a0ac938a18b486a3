-- The nodes of a tree show it, are those of its leaves, and what they say is the same to every caller.
use Rattle.std.proofs.Common.{◌≡◌, ◌≤◌, ℕ, Bool, true, false, ◌&&◌, List, [], ◌∷◌, map, refl, sym, ap, subst, ◌∙◌, arith}
use Rattle.std.specs.Prelude.{⊤, ◌==◌, filter, max, nat_le, Some}
use Rattle.std.specs.Bool.{IsTrue}
use Rattle.std.specs.List.{AllByRecursion, list_all}
use Rattle.std.specs.Map.{keys_of, values_of}
use Rattle.std.proofs.lemmas.Bool.{and_parts, leb-true}
use Rattle.ubifs_base.specs.Key.{key_words}
use Rattle.media_leaf.specs.LeafNode.{IsLeaf}
use Rattle.fs_model.specs.declared.change.Change.{Change}
use Rattle.fs_model.specs.declared.change.Change.TheVariants.{SetInode, SetEntry, SetBlock}
use Rattle.fs_model.specs.declared.inode.Entry.{Entry}
use Rattle.fs_model.specs.declared.inode.Inode.{Inode}
use Rattle.fs_model.specs.Directory.{by_hash, entries_in, links_of}
use Rattle.fs_model.specs.Files.{Blocks, Entries, Handles, Inodes, Tree, entry_at, name_cmp}
use Rattle.fs_model.specs.Path.{is_dir}
use Rattle.fs_model.specs.Proper.{IsProper, ascends, is_block_node, is_inode_node}
use Rattle.fs_model.specs.Same.{IsSame, as_told, told_inodes, trimmed_blocks}
use Rattle.group_nodes.specs.NodeLaws.{leaf_of_inode, leaf_of_node}
use Rattle.group_nodes.specs.Nodes.{node_of}
use Rattle.leaf_map.specs.After.{is_set}
use Rattle.leaf_map.specs.Kept.{Placed, kept_at, node_key}
use Rattle.leaf_map.specs.LeafMap.{IsLeafMap}
use Rattle.leaf_map.specs.Parts.{is_shown}
use Rattle.leaf_map.specs.Recovered.{highest_key}
use Rattle.leaf_map.specs.Shown.{blocks_shown_by, entries_of, tree_of}
use Rattle.image_maker.specs.Leaves.{stored_size}
use Rattle.tree_nodes.specs.Stored.{AreNodesOfTree, IsLiveLeaf, as_stored, hash_and_name, is_owned, stored_tree}
use Rattle.tree_nodes.proofs.Before.{IsOf, IsRowOf, all_before, all_in, all_of, each_is, sorted_are, sorted_ascend, sorted_rows}
use Rattle.tree_nodes.proofs.Blocks.{blocks_owned}
use Rattle.tree_nodes.proofs.Changes.{IsNamed, all_append, all_by_hash, all_filter, changes_from, changes_of, live_shown, names_named, nodes_of_changes, set_block}
use Rattle.tree_nodes.proofs.Names.{IsFoundIn, names_same, own_names}
use Rattle.tree_nodes.proofs.Shown.{AreShown, IsOfSome, are_shown, blocks_found, inodes_found, leaf_map, names_found}

shows : (tree : Tree) (nodes : List Placed) → IsProper tree → AreNodesOfTree tree nodes → AreShown nodes (changes_from tree tree.inodes)
shows tree nodes p h = are_shown nodes (changes_from tree tree.inodes) (h ∙ sym (nodes_of_changes tree tree.inodes)) (live_shown tree p)

-- they are the leaves of an index
pub nodes_are_leaves : (tree : Tree) (nodes : List Placed) → IsProper tree → AreNodesOfTree tree nodes → IsLeafMap (map kept_at nodes)
nodes_are_leaves tree nodes p h =
    leaf_map nodes (changes_from tree tree.inodes) (shows tree nodes p h) (all_of tree p.block_nodes p.blocks_ascend tree.inodes) (all_before tree p.block_nodes p.blocks_ascend tree.inodes p.inodes_ascend)

abbrev tree_with : Inodes → Blocks → Entries → ℕ → Tree
tree_with inodes blocks entries highest = record { inodes = inodes; blocks = blocks; entries = entries; highest = highest }

-- and show the tree
pub nodes_show_tree : (tree : Tree) (nodes : List Placed) → IsProper tree → AreNodesOfTree tree nodes → tree_of (map kept_at nodes) tree.highest ≡ stored_tree tree
nodes_show_tree tree nodes p h =
    let s = shows tree nodes p h in
    let kept = map kept_at nodes in
    ap (λ z. tree_with z (blocks_shown_by kept) (entries_of kept) tree.highest) (inodes_found tree nodes s)
    ∙ ap (λ z. tree_with (map (as_stored tree) tree.inodes) z (entries_of kept) tree.highest) (blocks_found tree nodes s ∙ blocks_owned tree p)
    ∙ ap (λ z. tree_with (map (as_stored tree) tree.inodes) (filter (is_owned tree) tree.blocks) z tree.highest) (names_found tree nodes s ∙ names_same tree p)

-- ---- the highest number
number_is : (c : Change) (ino : ℕ) → IsOf ino c → (key_words (node_key (node_of c))).0 ≡ ino
number_is (SetInode n i) ino h = h
number_is (SetBlock n k b) ino h = h.0
number_is (SetEntry e) ino h = h
number_is c ino h = absurd h

-- of an inode that isn't above the highest
abbrev IsWithin : ℕ → Change → Type 0
IsWithin top c = (key_words (node_key (node_of c))).0 ≤ top

all_within : (top ino : ℕ) (cs : List Change) → ino ≤ top → AllByRecursion (IsOf ino) cs → AllByRecursion (IsWithin top) cs
all_within top ino [] l h = tt
all_within top ino (c ∷ cs) l h = let n = number_is c ino h.0 in (omega (arith, n, l), all_within top ino cs l h.1)

within : (tree : Tree) → IsProper tree → (top : ℕ) (inodes : Inodes) → list_all (λ e. nat_le e.0 top) inodes ≡ true → AllByRecursion (IsWithin top) (changes_from tree inodes)
within tree p top [] h = tt
within tree p top (e ∷ inodes) h =
    let parts = and_parts (nat_le e.0 top) (list_all (λ e. nat_le e.0 top) inodes) h in
    all_append (IsWithin top) (changes_of tree e) (changes_from tree inodes)
    (all_within top e.0 (changes_of tree e) (leb-true e.0 top parts.0) (each_is tree p.block_nodes p.blocks_ascend e)) (within tree p top inodes parts.1)

no_more : (top : ℕ) (nodes : List Placed) (cs : List Change) → AreShown nodes cs → AllByRecursion (IsWithin top) cs → highest_key top (map (λ x. node_key x.node) nodes) ≡ top
no_more top [] [] s h = refl
no_more top [] (c ∷ cs) s h = absurd s
no_more top (x ∷ nodes) [] s h = absurd s
no_more top (x ∷ nodes) (c ∷ cs) s h =
    let n : (key_words (node_key x.node)).0 ≡ (key_words (node_key (node_of c))).0 = ap (λ n. (key_words (node_key n)).0) s.0 in
    let l = h.0 in
    let same : max top (key_words (node_key x.node)).0 ≡ top = omega (arith, n, l) in
    ap (λ t. highest_key t (map (λ x. node_key x.node) nodes)) same ∙ no_more top nodes cs s.2 h.1

pub highest_is : (tree : Tree) (nodes : List Placed) → IsProper tree → AreNodesOfTree tree nodes → highest_key tree.highest (map (λ x. node_key x.node) nodes) ≡ tree.highest
highest_is tree nodes p h =
    let numbers = (and_parts (list_all (λ e. nat_le e.0 tree.highest) tree.inodes) (list_all (λ e. nat_le e.0.0 tree.highest) tree.blocks) (and_parts _ (list_all (λ e. nat_le e.0.0 tree.highest && nat_le e.1.ino tree.highest) tree.entries) p.numbers).0).0 in
    no_more tree.highest nodes (changes_from tree tree.inodes) (shows tree nodes p h) (within tree p tree.highest tree.inodes numbers)

-- ---- each node
abbrev IsNodeSo : Change → Type 0
IsNodeSo c = IsLeaf (node_of c)

blocks_fit : (bs : Blocks) → list_all is_block_node bs ≡ true → AllByRecursion (λ b. IsNodeSo (set_block b)) bs
blocks_fit [] h = tt
blocks_fit (b ∷ bs) h = let parts = and_parts (is_block_node b) (list_all is_block_node bs) h in (leaf_of_node (set_block b) parts.0, blocks_fit bs parts.1)

blocks_so : (bs : Blocks) → AllByRecursion (λ b. IsNodeSo (set_block b)) bs → AllByRecursion IsNodeSo (map set_block bs)
blocks_so [] h = tt
blocks_so (b ∷ bs) h = (h.0, blocks_so bs h.1)

entries_so : (es : List Entry) → AllByRecursion IsNamed es → AllByRecursion IsNodeSo (map SetEntry es)
entries_so [] h = tt
entries_so (e ∷ es) h = (leaf_of_node (SetEntry e) h.0, entries_so es h.1)

changes_fit : (tree : Tree) → IsProper tree → (inodes : Inodes) → list_all is_inode_node inodes ≡ true → AllByRecursion IsNodeSo (changes_from tree inodes)
changes_fit tree p [] h = tt
changes_fit tree p (e ∷ inodes) h =
    let parts = and_parts (is_inode_node e) (list_all is_inode_node inodes) h in
    let bs = filter (λ (stored : (ℕ × ℕ) × List ℕ). stored.0.0 == e.0) tree.blocks in
    let es = by_hash (entries_in tree e.0) in
    all_append IsNodeSo (changes_of tree e) (changes_from tree inodes) (
      leaf_of_inode e parts.0 (stored_size tree e.0 e.1) (links_of tree e.0 e.1),
      all_append IsNodeSo (map set_block bs) (map SetEntry es)
          (blocks_so bs (all_filter (λ b. IsNodeSo (set_block b)) (λ (stored : (ℕ × ℕ) × List ℕ). stored.0.0 == e.0) tree.blocks (blocks_fit tree.blocks p.block_nodes)))
          (entries_so es (all_by_hash IsNamed (entries_in tree e.0) (all_filter IsNamed (λ (x : Entry). x.dir == e.0) (values_of tree.entries) (names_named tree p)))),
    )
    (changes_fit tree p inodes parts.1)

set_is : (c : Change) (ino : ℕ) → IsOf ino c → is_set c ≡ true
set_is (SetInode n i) ino h = refl
set_is (SetBlock n k b) ino h = refl
set_is (SetEntry e) ino h = refl
set_is c ino h = absurd h

-- a name that is set is the tree's
abbrev IsTheirs : Tree → Change → Type 0
IsTheirs tree (SetEntry e) = entry_at tree e.dir e.name ≡ Some e
IsTheirs tree c = ⊤

blocks_theirs : (tree : Tree) (bs : Blocks) → AllByRecursion (IsTheirs tree) (map set_block bs)
blocks_theirs tree [] = tt
blocks_theirs tree (b ∷ bs) = (tt, blocks_theirs tree bs)

entries_theirs : (tree : Tree) (es : List Entry) → AllByRecursion (IsFoundIn tree.entries) es → AllByRecursion (IsTheirs tree) (map SetEntry es)
entries_theirs tree [] h = tt
entries_theirs tree (e ∷ es) h = (h.0, entries_theirs tree es h.1)

all_theirs : (tree : Tree) → IsProper tree → (inodes : Inodes) → AllByRecursion (IsTheirs tree) (changes_from tree inodes)
all_theirs tree p [] = tt
all_theirs tree p (e ∷ inodes) =
    let bs = filter (λ (stored : (ℕ × ℕ) × List ℕ). stored.0.0 == e.0) tree.blocks in
    let es = by_hash (entries_in tree e.0) in
    all_append (IsTheirs tree) (changes_of tree e) (changes_from tree inodes)
    (tt, all_append (IsTheirs tree) (map set_block bs) (map SetEntry es) (blocks_theirs tree bs) (entries_theirs tree es (own_names tree p e.0))) (all_theirs tree p inodes)

their_name : (tree : Tree) (c : Change) (e : Entry) → IsTheirs tree c → Some c ≡ Some (SetEntry e) → entry_at tree e.dir e.name ≡ Some e
their_name tree c e h same = let it : c ≡ SetEntry e = cc in subst (IsTheirs tree) it h

live_leaves_are : (tree : Tree) (nodes : List Placed) (cs : List Change) → AreShown nodes cs → AllByRecursion IsOfSome cs → AllByRecursion IsNodeSo cs → AllByRecursion (IsTheirs tree) cs → AllByRecursion (IsLiveLeaf tree) nodes
live_leaves_are tree [] [] s h n t = tt
live_leaves_are tree [] (c ∷ cs) s h n t = absurd s
live_leaves_are tree (x ∷ nodes) [] s h n t = absurd s
live_leaves_are tree (x ∷ nodes) (c ∷ cs) s h n t = (
  record {
    is = subst IsLeaf (sym s.0) n.0;
    shows = ap is_shown s.1 ∙ set_is c h.0.0 h.0.1;
    named = λ e f. their_name tree c e t.0 (sym s.1 ∙ f);
  },
  live_leaves_are tree nodes cs s.2 h.1 n.1 t.1,
)

pub nodes_are_live : (tree : Tree) (nodes : List Placed) → IsProper tree → AreNodesOfTree tree nodes → AllByRecursion (IsLiveLeaf tree) nodes
nodes_are_live tree nodes p h =
    live_leaves_are tree nodes (changes_from tree tree.inodes) (shows tree nodes p h) (all_of tree p.block_nodes p.blocks_ascend tree.inodes) (changes_fit tree p tree.inodes p.inode_nodes) (all_theirs tree p tree.inodes)

-- ---- names of one hash
keys_are : (dir : ℕ) (rows : List ((ℕ × List ℕ) × Entry)) → AllByRecursion (IsRowOf dir) rows → keys_of rows ≡ map hash_and_name (values_of rows)
keys_are dir [] h = refl
keys_are dir (r ∷ rows) h = ap (λ k. k ∷ keys_of rows) h.0.0 ∙ ap (λ ks. hash_and_name r.1 ∷ ks) (keys_are dir rows h.1)

pub names_in_order : (tree : Tree) (dir : ℕ) → IsTrue (ascends name_cmp (map hash_and_name (by_hash (entries_in tree dir))))
names_in_order tree dir =
    let entries = entries_in tree dir in
    sym (ap (ascends name_cmp) (keys_are dir (sorted_rows [] entries) (sorted_are dir [] entries tt (all_in dir (values_of tree.entries))))) ∙ sorted_ascend [] entries refl

-- ---- the same to every caller
told_as : (tree : Tree) (e : ℕ × Inode) → as_told (as_stored tree e).1 ≡ as_told e.1
told_as tree e = by (is_dir e.1.kind) refl
  where
    by : (b : Bool) → is_dir e.1.kind ≡ b → as_told (as_stored tree e).1 ≡ as_told e.1
    by true x = rw x refl
    by false x = rw x refl

told_same : (tree : Tree) (inodes : Inodes) → told_inodes (map (as_stored tree) inodes) ≡ told_inodes inodes
told_same tree [] = refl
told_same tree (e ∷ inodes) = ap (λ (i : Inode). (e.0, i) ∷ told_inodes (map (as_stored tree) inodes)) (told_as tree e) ∙ ap (λ z. (e.0, as_told e.1) ∷ z) (told_same tree inodes)

all_kept : (test : (ℕ × ℕ) × List ℕ → Bool) (bs : Blocks) → list_all test bs ≡ true → filter test bs ≡ bs
all_kept test [] h = refl
all_kept test (b ∷ bs) h = let parts = and_parts (test b) (list_all test bs) h in rw parts.0 (ap (λ z. b ∷ z) (all_kept test bs parts.1))

pub stored_is_same : (tree : Tree) (handles : Handles) → IsTrue (list_all (is_owned tree) tree.blocks) → IsSame (record { tree = stored_tree tree; handles = handles }) (record { tree = tree; handles = handles })
stored_is_same tree handles owned = record {
  inodes = told_same tree tree.inodes;
  blocks = ap trimmed_blocks (all_kept (is_owned tree) tree.blocks owned);
  entries = refl;
  highest = refl;
  handles = refl;
}

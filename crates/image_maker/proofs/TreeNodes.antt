-- The leaves of a proper tree are nodes, and take its bytes.
use Rattle.std.proofs.Common.{◌≡◌, ℕ, ◌+◌, ◌<◌, ◌≤◌, ◌++◌, Bool, true, false, cond, ◌&&◌, List, [], ◌∷◌, length, refl, sym, ◌∙◌, ap, arith}
use Rattle.std.specs.Prelude.{◌==◌, ◌^◌, nat_lt, filter, map, fold, count_by}
use Rattle.std.specs.Bool.{IsTrue}
use Rattle.std.specs.BTreeMap.{insert_entry}
use Rattle.std.specs.List.{sum_by, flat_map, list_all, AllByRecursion}
use Rattle.std.specs.Map.{keys_of, values_of}
use Rattle.std.specs.Ordering.{nat_cmp, is_lt, match_ordering}
use Rattle.std.specs.declared.cmp.Ordering.{Ordering}
use Rattle.std.specs.declared.cmp.Ordering.TheVariants.{Less, Equal, Greater}
use Rattle.std.proofs.lemmas.Bool.{false≢true}
use Rattle.std.proofs.lemmas.Bool.Decides.{nat_tests}
use Rattle.std.proofs.lemmas.List.Sums.{sum_by-append, sum_by-cons}
use Rattle.ubifs_base.specs.R5.{r5_of}
use Rattle.media_leaf.specs.LeafNode.{LeafNode}
use Rattle.fs_model.specs.declared.inode.Inode.{Inode}
use Rattle.fs_model.specs.declared.inode.Entry.{Entry}
use Rattle.fs_model.specs.declared.inode.Kind.TheVariants.{Dir}
use Rattle.fs_model.specs.Cover.{tree_bytes, inode_bytes, entry_bytes}
use Rattle.fs_model.specs.Directory.{by_hash, dir_links, dir_size, entries_in, links_of}
use Rattle.fs_model.specs.Path.{is_dir}
use Rattle.fs_model.specs.Files.{Tree, Inodes, Blocks, Entries, name_cmp}
use Rattle.fs_model.specs.Proper.{IsProper, ascends, has_kind, is_inode_node, is_block_node, is_entry_node}
use Rattle.image_maker.specs.Laying.{HavePlainModes}
use Rattle.group_nodes.specs.NodeLaws.{inode_numbered, plain_mode}
use Rattle.group_nodes.specs.Texts.{padded_leaf_bytes}
use Rattle.image_maker.specs.Leaves.{stored_size, inode_leaf, block_leaf, entry_leaf, leaf_nodes_of, live_leaves}
use Rattle.image_maker.proofs.Grammar.{CanBeWritten, block_written, entry_written, inode_written, nlink_fits, size_fits}
use Rattle.image_maker.proofs.Sums.{count_le-sum_by, part, part_le, part_step, block_weight, sum_by-block_leaves, sum_by-blocks, sum_by-entry_leaves, sum_by-by_hash}

pub and_first : (a b : Bool) → IsTrue (a && b) → IsTrue a
and_first true b h = refl
and_first false b h = h

pub and_second : (a b : Bool) → IsTrue (a && b) → IsTrue b
and_second true b h = h
and_second false b h = absurd cc

-- the entries of a directory take no more than all
pub sum_by-entries_in : (tree : Tree) (dir : ℕ) → sum_by entry_bytes (entries_in tree dir) ≤ tree_bytes tree
sum_by-entries_in tree dir =
    let n : sum_by entry_bytes (entries_in tree dir) ≤ sum_by entry_bytes (values_of tree.entries) = part_le entry_bytes (λ e. e.dir == dir) (values_of tree.entries) in
    omega (arith, n)

-- ---- each node
block_is : (b : (ℕ × ℕ) × List ℕ) → IsTrue (is_block_node b) → CanBeWritten (block_leaf b)
block_is b h = block_written b h

blocks_are : (ino : ℕ) (blocks : Blocks) → IsTrue (list_all is_block_node blocks) → AllByRecursion CanBeWritten (map block_leaf (filter (λ stored. stored.0.0 == ino) blocks))
blocks_are ino [] h = tt
blocks_are ino (b ∷ blocks) h = by (b.0.0 == ino) (blocks_are ino blocks (and_second (is_block_node b) (list_all is_block_node blocks) h))
  where
    by : (test : Bool) → AllByRecursion CanBeWritten (map block_leaf (filter (λ stored. stored.0.0 == ino) blocks))
        → AllByRecursion CanBeWritten (map block_leaf (cond test (b ∷ filter (λ stored. stored.0.0 == ino) blocks) (filter (λ stored. stored.0.0 == ino) blocks)))
    by true more = (block_is b (and_first (is_block_node b) (list_all is_block_node blocks) h), more)
    by false more = more

entries_are : (dir : ℕ) (entries : Entries) → IsTrue (list_all is_entry_node entries) → AllByRecursion (λ e. CanBeWritten (entry_leaf e)) (filter (λ e. e.dir == dir) (values_of entries))
entries_are dir [] h = tt
entries_are dir (e ∷ entries) h = by (e.1.dir == dir) (entries_are dir entries (and_second (is_entry_node e) (list_all is_entry_node entries) h))
  where
    by : (test : Bool) → AllByRecursion (λ e. CanBeWritten (entry_leaf e)) (filter (λ e. e.dir == dir) (values_of entries))
        → AllByRecursion (λ e. CanBeWritten (entry_leaf e)) (cond test (e.1 ∷ filter (λ e. e.dir == dir) (values_of entries)) (filter (λ e. e.dir == dir) (values_of entries)))
    by true more = (entry_written e (and_first (is_entry_node e) (list_all is_entry_node entries) h), more)
    by false more = more

insert_are : (rows : List ((ℕ × List ℕ) × Entry)) (k : ℕ × List ℕ) (e : Entry) → AllByRecursion (λ e. CanBeWritten (entry_leaf e)) (values_of rows) → CanBeWritten (entry_leaf e) → AllByRecursion (λ e. CanBeWritten (entry_leaf e)) (values_of (insert_entry name_cmp rows k e))
insert_are [] k e h is = (is, tt)
insert_are (r ∷ rows) k e h is = by (insert_are rows k e h.1 is) (name_cmp k r.0)
  where
    by : AllByRecursion (λ e. CanBeWritten (entry_leaf e)) (values_of (insert_entry name_cmp rows k e)) → (o : Ordering) → AllByRecursion (λ e. CanBeWritten (entry_leaf e)) (values_of (match_ordering o ((k, e) ∷ r ∷ rows) ((r.0, e) ∷ rows) (r ∷ insert_entry name_cmp rows k e)))
    by more Less = (is, h)
    by more Equal = (is, h.1)
    by more Greater = (h.0, more)

sorted_are : (rows : List ((ℕ × List ℕ) × Entry)) (entries : List Entry) → AllByRecursion (λ e. CanBeWritten (entry_leaf e)) (values_of rows) → AllByRecursion (λ e. CanBeWritten (entry_leaf e)) entries
    → AllByRecursion (λ e. CanBeWritten (entry_leaf e)) (values_of (fold (λ sorted e. insert_entry name_cmp sorted (r5_of e.name, e.name) e) rows entries))
sorted_are rows [] h all = h
sorted_are rows (e ∷ entries) h all = sorted_are (insert_entry name_cmp rows (r5_of e.name, e.name) e) entries (insert_are rows (r5_of e.name, e.name) e h all.0) all.1

leaves_are : (entries : List Entry) → AllByRecursion (λ e. CanBeWritten (entry_leaf e)) entries → AllByRecursion CanBeWritten (map entry_leaf entries)
leaves_are [] h = tt
leaves_are (e ∷ entries) h = (h.0, leaves_are entries h.1)

all_append : (xs ys : List LeafNode) → AllByRecursion CanBeWritten xs → AllByRecursion CanBeWritten ys → AllByRecursion CanBeWritten (xs ++ ys)
all_append [] ys h k = k
all_append (x ∷ xs) ys h k = (h.0, all_append xs ys h.1 k)

-- what is reckoned of a directory fits, as its entries are few
links_fit : (tree : Tree) (e : ℕ × Inode) → tree_bytes tree ≤ 2 ^ 30 → IsTrue (is_inode_node e) → links_of tree e.0 e.1 < 2 ^ 32
links_fit tree e few h = by (is_dir e.1.kind)
  where
    by : (test : Bool) → cond test (dir_links tree e.0) e.1.nlink < 2 ^ 32
    by true = let c : count_by (λ x. is_dir x.kind) (entries_in tree e.0) ≤ sum_by entry_bytes (entries_in tree e.0) = count_le-sum_by (entries_in tree e.0) in
        let s : sum_by entry_bytes (entries_in tree e.0) ≤ tree_bytes tree = sum_by-entries_in tree e.0 in
        omega (arith, c, s, few)
    by false = nlink_fits e h

size_stored : (tree : Tree) (e : ℕ × Inode) → tree_bytes tree ≤ 2 ^ 30 → IsTrue (is_inode_node e) → stored_size tree e.0 e.1 < 2 ^ 64
size_stored tree e few h = by (is_dir e.1.kind)
  where
    by : (test : Bool) → cond test (dir_size tree e.0) e.1.size < 2 ^ 64
    by true = let s : sum_by entry_bytes (entries_in tree e.0) ≤ tree_bytes tree = sum_by-entries_in tree e.0 in omega (arith, s, few)
    by false = size_fits e h

-- the leaves of a proper tree can be written, if it takes few bytes
inodes_are : (tree : Tree) (inodes : Inodes) → tree_bytes tree ≤ 2 ^ 30 → IsTrue (list_all is_block_node tree.blocks) → IsTrue (list_all is_entry_node tree.entries) → IsTrue (list_all is_inode_node inodes)
    → AllByRecursion CanBeWritten (flat_map (leaf_nodes_of tree) inodes)
inodes_are tree [] few b n h = tt
inodes_are tree (e ∷ inodes) few b n h =
    let blocks = map block_leaf (filter (λ stored. stored.0.0 == e.0) tree.blocks) in
    let entries = map entry_leaf (by_hash (entries_in tree e.0)) in
    let first : AllByRecursion CanBeWritten (blocks ++ entries) = all_append blocks entries (blocks_are e.0 tree.blocks b) (leaves_are (by_hash (entries_in tree e.0)) (sorted_are [] (entries_in tree e.0) tt (entries_are e.0 tree.entries n))) in
    let is = and_first (is_inode_node e) (list_all is_inode_node inodes) h in
    let node : CanBeWritten (inode_leaf tree e.0 e.1) = inode_written e (stored_size tree e.0 e.1) (links_of tree e.0 e.1) is (size_stored tree e few is) (links_fit tree e few is) in
    all_append (leaf_nodes_of tree e) (flat_map (leaf_nodes_of tree) inodes) (node, first) (inodes_are tree inodes few b n (and_second (is_inode_node e) (list_all is_inode_node inodes) h))

pub live_leaves-are : (tree : Tree) → IsProper tree → tree_bytes tree ≤ 2 ^ 30 → AllByRecursion CanBeWritten (live_leaves tree)
live_leaves-are tree p few = inodes_are tree tree.inodes few p.block_nodes p.entry_nodes p.inode_nodes

modes_of : (inodes : Inodes) → IsTrue (list_all is_inode_node inodes) → HavePlainModes inodes
modes_of [] h = tt
modes_of (e ∷ inodes) h = (plain_mode e (and_first (is_inode_node e) (list_all is_inode_node inodes) h), modes_of inodes (and_second (is_inode_node e) (list_all is_inode_node inodes) h))

pub plain_modes : (tree : Tree) → IsProper tree → HavePlainModes tree.inodes
plain_modes tree p = modes_of tree.inodes p.inode_nodes

-- there is a root
pub some_leaf : (tree : Tree) → IsProper tree → 0 < length (live_leaves tree)
some_leaf tree p = by tree.inodes refl
  where
    by : (inodes : Inodes) → tree.inodes ≡ inodes → 0 < length (flat_map (leaf_nodes_of tree) inodes)
    by [] none = absurd (false≢true (ap (λ xs. has_kind (record tree { inodes = xs }) 1 Dir) (sym none) ∙ p.root))
    by (e ∷ inodes) is = omega arith

-- ---- bytes
pub less_of : (a b : ℕ) → is_lt (nat_cmp a b) ≡ true → a < b
less_of a b h = grind (arith, nat_tests)

abbrev entries_past : Tree → ℕ → ℕ
entries_past tree a = part entry_bytes (λ e. nat_lt a e.dir) (values_of tree.entries)

abbrev blocks_past : Tree → ℕ → ℕ
blocks_past tree a = part block_weight (λ stored. nat_lt a stored.0.0) tree.blocks

sum_of : (tree : Tree) (e : ℕ × Inode) → sum_by padded_leaf_bytes (leaf_nodes_of tree e) ≤ inode_bytes e.1 + (part block_weight (λ stored. stored.0.0 == e.0) tree.blocks + part entry_bytes (λ n. n.dir == e.0) (values_of tree.entries))
sum_of tree e =
    let blocks = map block_leaf (filter (λ stored. stored.0.0 == e.0) tree.blocks) in
    let entries = map entry_leaf (by_hash (entries_in tree e.0)) in
    let all = sum_by-cons padded_leaf_bytes (inode_leaf tree e.0 e.1) (blocks ++ entries) in
    let two = sum_by-append padded_leaf_bytes blocks entries in
    let b = sum_by-block_leaves (filter (λ stored. stored.0.0 == e.0) tree.blocks) in
    let n = sum_by-entry_leaves (by_hash (entries_in tree e.0)) in
    let less = sum_by-by_hash entry_bytes (entries_in tree e.0) in
    omega (arith, all, two, b, n, less)

sum_from : (tree : Tree) (inodes : Inodes) (a : ℕ) → ascends nat_cmp (a ∷ keys_of inodes) ≡ true
    → sum_by padded_leaf_bytes (flat_map (leaf_nodes_of tree) inodes) ≤ sum_by inode_bytes (values_of inodes) + (blocks_past tree a + entries_past tree a)
sum_from tree [] a up = omega arith
sum_from tree (e ∷ inodes) a up =
    let less = less_of a e.0 (and_first (is_lt (nat_cmp a e.0)) (ascends nat_cmp (e.0 ∷ keys_of inodes)) up) in
    let more = sum_from tree inodes e.0 (and_second (is_lt (nat_cmp a e.0)) (ascends nat_cmp (e.0 ∷ keys_of inodes)) up) in
    let all = sum_by-append padded_leaf_bytes (leaf_nodes_of tree e) (flat_map (leaf_nodes_of tree) inodes) in
    let here = sum_of tree e in
    let nodes = sum_by-cons inode_bytes e.1 (values_of inodes) in
    let b : part block_weight (λ stored. stored.0.0 == e.0) tree.blocks + blocks_past tree e.0 ≤ blocks_past tree a = part_step block_weight (λ stored. stored.0.0) a e.0 less tree.blocks in
    let n : part entry_bytes (λ n. n.dir == e.0) (values_of tree.entries) + entries_past tree e.0 ≤ entries_past tree a = part_step entry_bytes (λ n. n.dir) a e.0 less (values_of tree.entries) in
    omega (arith, more, all, here, nodes, b, n)

is_above : (n : ℕ) → 1 ≤ n → is_lt (nat_cmp 0 n) ≡ true
is_above n h = grind (arith, nat_tests)

pub from_zero : (inodes : Inodes) → IsTrue (list_all is_inode_node inodes) → ascends nat_cmp (keys_of inodes) ≡ true → ascends nat_cmp (0 ∷ keys_of inodes) ≡ true
from_zero [] h up = refl
from_zero (e ∷ inodes) h up = let less : is_lt (nat_cmp 0 e.0) ≡ true = is_above e.0 (inode_numbered e (and_first (is_inode_node e) (list_all is_inode_node inodes) h)) in ap (λ b. b && ascends nat_cmp (e.0 ∷ keys_of inodes)) less ∙ up

-- the nodes of a proper tree take no more than its bytes
pub sum_by-live_leaves : (tree : Tree) → IsProper tree → sum_by padded_leaf_bytes (live_leaves tree) ≤ tree_bytes tree
sum_by-live_leaves tree p =
    let all = sum_from tree tree.inodes 0 (from_zero tree.inodes p.inode_nodes p.inodes_ascend) in
    let b : blocks_past tree 0 ≤ sum_by block_weight tree.blocks = part_le block_weight (λ stored. nat_lt 0 stored.0.0) tree.blocks in
    let n : entries_past tree 0 ≤ sum_by entry_bytes (values_of tree.entries) = part_le entry_bytes (λ e. nat_lt 0 e.dir) (values_of tree.entries) in
    let blocks = sum_by-blocks tree.blocks in
    omega (arith, all, b, n, blocks)

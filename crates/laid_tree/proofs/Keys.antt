-- The leaves of nodes that stand have keys, and those of live nodes are in the order that nodes of an index ask for.
use Rattle.std.proofs.Common.{◌≡◌, ℕ, ◌+◌, ◌*◌, ◌^◌, ◌<◌, ◌≤◌, Bool, true, false, cond, not, ◌&&◌, List, [], ◌∷◌, length, map, refl, sym, ap, ◌∙◌, arith, Option, Some, None}
use Rattle.std.specs.Prelude.{◌==◌, ◌||◌, nat_le, nat_lt}
use Rattle.std.specs.List.{AllByRecursion, flat_map, list_all}
use Rattle.std.proofs.lemmas.Bool.{and_from, and_parts, eqb-false, eqb-true, false≢true, leb-true}
use Rattle.std.proofs.lemmas.Bool.Decides.{nat_tests}
use Rattle.std.proofs.lemmas.List.{length-map}
use Rattle.std.proofs.lemmas.List.Elements.{All-from_recursion}
use Rattle.ubifs_base.specs.declared.key.Key.{Key}
use Rattle.ubifs_base.specs.declared.key.Key.TheVariants.{Ino, Block, Dent, Xent}
use Rattle.ubifs_base.specs.Key.{IsKey, key_words}
use Rattle.ubifs_base.specs.R5.{r5_of}
use Rattle.node_fields.specs.Fields.{Spells}
use Rattle.media_leaf.specs.declared.dent_node.DentNode.{DentNode}
use Rattle.media_leaf.specs.LeafNode.{LeafNode, inode, block, entry, truncation, IsLeafNode}
use Rattle.media_sys.specs.Index.{in_order, is_entry, may_follow}
use Rattle.index_media.specs.PlacedRow.{branch_to}
use Rattle.index_tree.specs.Keyed.{HasKey, HaveKeys}
use Rattle.index_tree.specs.Order.{key_rank, leaf_rank, ordered_from}
use Rattle.index_tree.specs.declared.leaf.Leaf.{Leaf}
use Rattle.fs_model.specs.declared.change.Change.{Change}
use Rattle.fs_model.specs.declared.change.Change.TheVariants.{SetInode, SetEntry, SetBlock}
use Rattle.fs_model.specs.declared.inode.Inode.{Inode}
use Rattle.fs_model.specs.declared.inode.Kind.TheVariants.{Dir}
use Rattle.fs_model.specs.Files.{Inodes, Tree}
use Rattle.fs_model.specs.Proper.{IsProper, has_kind}
use Rattle.group_nodes.specs.FitLaws.{r5_small}
use Rattle.leaf_map.specs.Kept.{Kept, Placed, kept_at, node_key, shown, shown_by}
use Rattle.leaf_map.specs.LeafMap.{HasKeyOf, IsKeyed, IsLeafMap, are_apart, shows_same}
use Rattle.image_maker.specs.Leaves.{leaf_nodes_of, live_leaves}
use Rattle.sound_image.specs.Leaves.{IsPlacedIn}
use Rattle.laid_image.specs.Laid.{leaf_of_placed}
use Rattle.tree_nodes.specs.Stored.{AreNodesOfTree}

-- ---- keys
entry_is : (node : DentNode) (attribute : Bool) → (key_words (cond attribute (Xent node.dir (r5_of node.name)) (Dent node.dir (r5_of node.name)))).0 < 256 ^ 4
    → IsKey (cond attribute (Xent node.dir (r5_of node.name)) (Dent node.dir (r5_of node.name)))
entry_is node true s = (omega (arith, s), r5_small node.name)
entry_is node false s = (omega (arith, s), r5_small node.name)

-- a node of the grammar has a key
key_is : (node : LeafNode) (bytes : List ℕ) (sqnum group : ℕ) → IsLeafNode bytes sqnum group node → IsKey (node_key node)
unfolding Spells
key_is (inode node) bytes sqnum group h = let s = h.spelled.0 in omega (arith, s)
key_is (block node) bytes sqnum group h = let s = h.spelled.0 in (omega (arith, s), h.is.block_fits)
key_is (entry node) bytes sqnum group h = entry_is node node.attribute h.spelled.0
key_is (truncation node) bytes sqnum group h = let s = h.spelled.0 in omega (arith, s)

keys_are : (contents : ℕ → List ℕ) (nodes : List Placed) → AllByRecursion (IsPlacedIn contents) nodes → AllByRecursion HasKey (map leaf_of_placed nodes)
keys_are contents [] h = tt
keys_are contents (x ∷ nodes) h = (key_is x.node _ x.sqnum x.group h.0.is, keys_are contents nodes h.1)

pub leaves_have_keys : (contents : ℕ → List ℕ) (nodes : List Placed) → AllByRecursion (IsPlacedIn contents) nodes → HaveKeys (map leaf_of_placed nodes)
leaves_have_keys contents nodes h = All-from_recursion HasKey (map leaf_of_placed nodes) (keys_are contents nodes h)

-- ---- one key behind another
words_follow : (a b : ℕ × ℕ) (last : Bool) → a.1 < 2 ^ 33 → b.1 < 2 ^ 33 → a.0 * 2 ^ 33 + a.1 ≤ b.0 * 2 ^ 33 + b.1 → (a.0 ≡ b.0 → a.1 ≡ b.1 → last ≡ true)
    → (nat_lt a.0 b.0 || (a.0 == b.0 && (nat_lt a.1 b.1 || (a.1 == b.1 && last)))) ≡ true
words_follow a b last small low le same = by (nat_lt a.0 b.0) (a.0 == b.0) (nat_lt a.1 b.1) (a.1 == b.1) refl refl refl refl
  where
    by : (p q r s : Bool) → nat_lt a.0 b.0 ≡ p → (a.0 == b.0) ≡ q → nat_lt a.1 b.1 ≡ r → (a.1 == b.1) ≡ s → (p || (q && (r || (s && last)))) ≡ true
    by true q r s e f g h = refl
    by false true true s e f g h = refl
    by false true false true e f g h = same (eqb-true a.0 b.0 f) (eqb-true a.1 b.1 h)
    by false true false false e f g h =
        let first : a.0 ≡ b.0 = eqb-true a.0 b.0 f in
        let past : b.1 < a.1 = grind (arith, nat_tests) in
        absurd (omega (arith, first, past, le))
    by false false r s e f g h =
        let past : b.0 < a.0 = grind (arith, nat_tests) in
        absurd (omega (arith, past, le, small, low))

second_small : (key : Key) → IsKey key → (key_words key).1 < 2 ^ 33
second_small (Ino ino) h = omega arith
second_small (Block ino number) h = let k = h.1 in omega (arith, k)
second_small (Dent dir hash) h = let k = h.1 in omega (arith, k)
second_small (Xent ino hash) h = let k = h.1 in omega (arith, k)

-- the words of a key, from what it is
first_is : (x : Leaf) (key : Key) → x.key ≡ key → (key_words x.key).0 ≡ (key_words key).0
first_is x key e = ap (λ (k : Key). (key_words k).0) e

second_is : (x : Leaf) (key : Key) → x.key ≡ key → (key_words x.key).1 ≡ (key_words key).1
second_is x key e = ap (λ (k : Key). (key_words k).1) e

-- of two leaves of one key none shows an inode
no_inode : (x y : Leaf) (sx : Option Change) (ino : ℕ) (node : Inode) → HasKeyOf x sx → y.key ≡ Ino ino → shows_same sx (Some (SetInode ino node)) ≡ false
    → (key_words x.key).0 ≡ (key_words y.key).0 → (key_words x.key).1 ≡ (key_words y.key).1 → ⊥
no_inode x y (Some (SetInode n i)) ino node hx hy apart e f =
    let a = first_is x (Ino n) hx in
    let b = first_is y (Ino ino) hy in
    eqb-false ino n apart (omega (arith, a, b, e))
no_inode x y (Some (SetBlock n k bytes)) ino node hx hy apart e f =
    let a = second_is x (Block n k) hx.0 in
    let b = second_is y (Ino ino) hy in
    omega (arith, a, b, f)
no_inode x y (Some (SetEntry n)) ino node hx hy apart e f =
    let a = second_is x (Dent n.dir (r5_of n.name)) hx in
    let b = second_is y (Ino ino) hy in
    omega (arith, a, b, f)
no_inode x y sx ino node hx hy apart e f = absurd hx

both_same : (a b c d : ℕ) → a ≡ b → c ≡ d → ((a == b) && (c == d)) ≡ true
both_same a b c d e f = grind (arith, nat_tests)

-- and none a block
no_block : (x y : Leaf) (sx : Option Change) (ino number : ℕ) (bytes : List ℕ) → HasKeyOf x sx → y.key ≡ Block ino number → number < 2 ^ 29 → shows_same sx (Some (SetBlock ino number bytes)) ≡ false
    → (key_words x.key).0 ≡ (key_words y.key).0 → (key_words x.key).1 ≡ (key_words y.key).1 → ⊥
no_block x y (Some (SetInode n i)) ino number bytes hx hy small apart e f =
    let a = second_is x (Ino n) hx in
    let b = second_is y (Block ino number) hy in
    omega (arith, a, b, f)
no_block x y (Some (SetBlock n k old)) ino number bytes hx hy small apart e f =
    let a = first_is x (Block n k) hx.0 in
    let b = first_is y (Block ino number) hy in
    let c = second_is x (Block n k) hx.0 in
    let d = second_is y (Block ino number) hy in
    false≢true (sym apart ∙ both_same ino n number k (omega (arith, a, b, e)) (omega (arith, c, d, f)))
no_block x y (Some (SetEntry n)) ino number bytes hx hy small apart e f =
    let a = second_is x (Dent n.dir (r5_of n.name)) hx in
    let b = second_is y (Block ino number) hy in
    omega (arith, a, b, f, small)
no_block x y sx ino number bytes hx hy small apart e f = absurd hx

-- so leaves of one key are those of entries
same_keys : (x y : Leaf) (sx sy : Option Change) → HasKeyOf x sx → HasKeyOf y sy → shows_same sx sy ≡ false
    → (key_words x.key).0 ≡ (key_words y.key).0 → (key_words x.key).1 ≡ (key_words y.key).1 → is_entry y.key ≡ true
same_keys x y sx (Some (SetInode ino node)) hx hy apart e f = absurd (no_inode x y sx ino node hx hy apart e f)
same_keys x y sx (Some (SetBlock ino number bytes)) hx hy apart e f = absurd (no_block x y sx ino number bytes hx hy.0 hy.1 apart e f)
same_keys x y sx (Some (SetEntry n)) hx hy apart e f = ap is_entry hy
same_keys x y sx sy hx hy apart e f = absurd hy

follows : (x y : Leaf) (sx sy : Option Change) → HasKeyOf x sx → HasKeyOf y sy → shows_same sx sy ≡ false → leaf_rank x ≤ leaf_rank y → IsKey x.key → IsKey y.key → may_follow (Some x.key) y.key ≡ true
unfolding key_rank
follows x y sx sy hx hy apart le kx ky =
    words_follow (key_words x.key) (key_words y.key) (is_entry y.key) (second_small x.key kx) (second_small y.key ky) le (λ e f. same_keys x y sx sy hx hy apart e f)

not_so : (b : Bool) → not b ≡ true → b ≡ false
not_so true h = absurd (false≢true h)
not_so false h = refl

-- ---- all of them
order_from : (contents : ℕ → List ℕ) (x : Placed) (nodes : List Placed) → AllByRecursion (IsPlacedIn contents) (x ∷ nodes) → AllByRecursion IsKeyed (map kept_at (x ∷ nodes)) → are_apart (map kept_at (x ∷ nodes)) ≡ true
    → ordered_from (leaf_rank (leaf_of_placed x)) (map (λ (k : Kept). k.leaf) (map kept_at nodes)) ≡ true → in_order (Some (leaf_of_placed x).key) (map branch_to (map leaf_of_placed nodes)) ≡ true
order_from contents x [] stand keyed apart up = refl
order_from contents x (y ∷ nodes) stand keyed apart up =
    let parts = and_parts (list_all (λ z. not (shows_same (shown x.node) (shown_by z))) (map kept_at (y ∷ nodes))) (are_apart (map kept_at (y ∷ nodes))) apart in
    let first = and_parts (not (shows_same (shown x.node) (shown y.node))) (list_all (λ z. not (shows_same (shown x.node) (shown_by z))) (map kept_at nodes)) parts.0 in
    let low = and_parts (nat_le (leaf_rank (leaf_of_placed x)) (leaf_rank (leaf_of_placed y))) (ordered_from (leaf_rank (leaf_of_placed y)) (map (λ (k : Kept). k.leaf) (map kept_at nodes))) up in
    and_from (may_follow (Some (leaf_of_placed x).key) (leaf_of_placed y).key) (in_order (Some (leaf_of_placed y).key) (map branch_to (map leaf_of_placed nodes)))
    (follows (leaf_of_placed x) (leaf_of_placed y) (shown x.node) (shown y.node) keyed.0 keyed.1.0 (not_so (shows_same (shown x.node) (shown y.node)) first.0) (leb-true (leaf_rank (leaf_of_placed x)) (leaf_rank (leaf_of_placed y)) low.0)
    (key_is x.node _ x.sqnum x.group stand.0.is) (key_is y.node _ y.sqnum y.group stand.1.0.is))
    (order_from contents y nodes stand.1 keyed.1 parts.1 low.1)

pub leaves_in_order : (contents : ℕ → List ℕ) (nodes : List Placed) → AllByRecursion (IsPlacedIn contents) nodes → IsLeafMap (map kept_at nodes) → in_order None (map branch_to (map leaf_of_placed nodes)) ≡ true
leaves_in_order contents [] stand h = refl
leaves_in_order contents (x ∷ nodes) stand h =
    let low = and_parts (nat_le 0 (leaf_rank (leaf_of_placed x))) (ordered_from (leaf_rank (leaf_of_placed x)) (map (λ (k : Kept). k.leaf) (map kept_at nodes))) h.ordered in
    order_from contents x nodes stand h.keyed h.apart low.1

same_leaves : (nodes : List Placed) → map (λ (k : Kept). k.leaf) (map kept_at nodes) ≡ map leaf_of_placed nodes
same_leaves [] = refl
same_leaves (x ∷ nodes) = ap (λ xs. leaf_of_placed x ∷ xs) (same_leaves nodes)

pub leaves_ascend : (nodes : List Placed) → IsLeafMap (map kept_at nodes) → ordered_from 0 (map leaf_of_placed nodes) ≡ true
leaves_ascend nodes h = ap (ordered_from 0) (sym (same_leaves nodes)) ∙ h.ordered

-- there is a root
pub some_nodes : (tree : Tree) (nodes : List Placed) → IsProper tree → AreNodesOfTree tree nodes → 0 < length nodes
some_nodes tree nodes proper are =
    let same = length-map nodes (λ (x : Placed). x.node) in
    let live : length (map (λ (x : Placed). x.node) nodes) ≡ length (live_leaves tree) = ap length are in
    let some = by tree.inodes refl in
    omega (arith, same, live, some)
  where
    by : (inodes : Inodes) → tree.inodes ≡ inodes → 0 < length (flat_map (leaf_nodes_of tree) inodes)
    by [] none = absurd (false≢true (ap (λ xs. has_kind (record tree { inodes = xs }) 1 Dir) (sym none) ∙ proper.root))
    by (e ∷ inodes) is = omega arith

-- Nodes of a journal, applied to leaves in order of number, make of their tree what their changes make of it.
use Rattle.std.proofs.Common.{◌≡◌, ℕ, Bool, true, false, cond, List, [], ◌∷◌, map, max, refl, sym, ap, subst, ◌∙◌, Option, Some, None}
use Rattle.std.specs.Prelude.{◌==◌, nat_lt, fold}
use Rattle.std.specs.Option.{option_map}
use Rattle.ubifs_base.specs.Key.{key_words}
use Rattle.media_leaf.specs.LeafNode.{LeafNode, IsLeaf, inode, block, entry, truncation}
use Rattle.media_leaf.specs.declared.dent_node.DentNode.{DentNode}
use Rattle.media_leaf.specs.declared.ino_node.InoNode.{InoNode}
use Rattle.fs_model.specs.declared.change.Change.{Change}
use Rattle.fs_model.specs.declared.change.Change.TheVariants.{SetInode, SetEntry, DropEntry, SetBlock, CutBlocks, DropInode}
use Rattle.fs_model.specs.declared.inode.Kind.{Kind}
use Rattle.fs_model.specs.Change.{apply, key_number}
use Rattle.fs_model.specs.Recovery.{Numbered, as_replayed, by_number, placed}
use Rattle.group_nodes.specs.Nodes.{bits_of, change_of, inode_of, kind_of_bits, kind_of_type}
use Rattle.leaf_map.specs.After.{kept_after}
use Rattle.leaf_map.specs.Allowed.{AreRead}
use Rattle.leaf_map.specs.Kept.{Kept, Placed, node_key}
use Rattle.leaf_map.specs.LeafMap.{IsLeafMap}
use Rattle.leaf_map.specs.Recovered.{highest_key, nodes_in_order, leaves_after, placed_node}
use Rattle.leaf_map.specs.Shown.{tree_of}
use Rattle.leaf_map.proofs.Changes.{map_read, tree_read}

-- ---- the key of a node has the number of its change
inode_number : (node : InoNode) (change : Change) (z : Bool) (k : Option Kind) → cond z (Some (DropInode node.ino)) (option_map (λ kind. SetInode node.ino (inode_of node kind)) k) ≡ Some change → key_number change ≡ node.ino
inode_number node change true k e = let same : DropInode node.ino ≡ change = cc in ap key_number (sym same)
inode_number node change false None e = absurd cc
inode_number node change false (Some kind) e = let same : SetInode node.ino (inode_of node kind) ≡ change = cc in ap key_number (sym same)

entry_number : (node : DentNode) (change : Change) (a z : Bool) (k : Option Kind) → node.attribute ≡ a
    → cond a None (cond z (Some (DropEntry node.dir node.name)) (option_map (λ kind. SetEntry (record { dir = node.dir; name = node.name; ino = node.inum; kind = kind })) k)) ≡ Some change → key_number change ≡ (key_words (node_key (entry node))).0
entry_number node change true z k h e = absurd cc
entry_number node change false true k h e = let same : DropEntry node.dir node.name ≡ change = cc in ap key_number (sym same) ∙ rw h refl
entry_number node change false false None h e = absurd cc
entry_number node change false false (Some kind) h e =
    let same : SetEntry (record { dir = node.dir; name = node.name; ino = node.inum; kind = kind }) ≡ change = cc in ap key_number (sym same) ∙ rw h refl

node_number : (node : LeafNode) (change : Change) → change_of node ≡ Some change → key_number change ≡ (key_words (node_key node)).0
node_number (inode node) change e = inode_number node change (node.nlink == 0) (kind_of_bits (bits_of node.mode)) e
node_number (block node) change e = let same : SetBlock node.ino node.block node.bytes ≡ change = cc in ap key_number (sym same)
node_number (entry node) change e = entry_number node change node.attribute (node.inum == 0) (kind_of_type node.kind) refl e
node_number (truncation node) change e = let same : CutBlocks node.ino node.old_size node.new_size ≡ change = cc in ap key_number (sym same)

-- the changes that are replayed
abbrev pub replayed_changes : Numbered → List Change
replayed_changes changes = map (λ c. as_replayed c.1) changes

abbrev node_keys : List Placed → List Rattle.ubifs_base.specs.declared.key.Key.Key
node_keys nodes = map (λ x. node_key x.node) nodes

-- ---- in the order in which they are
pub tree_replayed : (nodes : List Placed) (changes : Numbered) (kept : List Kept) (highest : ℕ) → AreRead nodes changes → IsLeafMap kept
    → tree_of (leaves_after kept nodes) (highest_key highest (map (λ x. node_key x.node) nodes)) ≡ apply (tree_of kept highest) (replayed_changes changes)
tree_replayed [] [] kept highest r is = refl
tree_replayed [] (c ∷ changes) kept highest r is = absurd r
tree_replayed (x ∷ nodes) [] kept highest r is = absurd r
tree_replayed (x ∷ nodes) (c ∷ changes) kept highest (leaf, number, read, more) is =
    let change : Change = as_replayed c.1 in
    let now : ℕ = max highest (key_words (node_key x.node)).0 in
    let same = ap (max highest) (node_number x.node change read) in
    tree_replayed nodes changes (kept_after kept x) now more (map_read x kept leaf is)
    ∙ ap (λ t. apply t (replayed_changes changes)) (ap (tree_of (kept_after kept x)) (sym same) ∙ tree_read change x kept highest leaf read is)

pub map_replayed : (nodes : List Placed) (changes : Numbered) (kept : List Kept) → AreRead nodes changes → IsLeafMap kept → IsLeafMap (leaves_after kept nodes)
map_replayed [] [] kept r is = is
map_replayed [] (c ∷ changes) kept r is = absurd r
map_replayed (x ∷ nodes) [] kept r is = absurd r
map_replayed (x ∷ nodes) (c ∷ changes) kept (leaf, number, read, more) is = map_replayed nodes changes (kept_after kept x) more (map_read x kept leaf is)

-- ---- nodes in order of number carry the changes in order of number
read_placed : (nodes : List Placed) (changes : Numbered) (x : Placed) (c : ℕ × Change) → AreRead nodes changes → IsLeaf x.node → x.sqnum ≡ c.0 → change_of x.node ≡ Some (as_replayed c.1) → AreRead (placed_node nodes x) (placed changes c)
read_placed [] [] x c r leaf number read = (leaf, number, read, tt)
read_placed [] (d ∷ changes) x c r leaf number read = absurd r
read_placed (y ∷ nodes) [] x c r leaf number read = absurd r
read_placed (y ∷ nodes) (d ∷ changes) x c (first, of, told, more) leaf number read =
    subst (λ b. AreRead (cond b (x ∷ y ∷ nodes) (y ∷ placed_node nodes x)) (cond (nat_lt c.0 d.0) (c ∷ d ∷ changes) (d ∷ placed changes c))) (sym same)
    (by (nat_lt c.0 d.0) (read_placed nodes changes x c more leaf number read))
  where
    same : nat_lt x.sqnum y.sqnum ≡ nat_lt c.0 d.0
    same = ap (λ n. nat_lt n y.sqnum) number ∙ ap (nat_lt c.0) of

    by : (b : Bool) → AreRead (placed_node nodes x) (placed changes c) → AreRead (cond b (x ∷ y ∷ nodes) (y ∷ placed_node nodes x)) (cond b (c ∷ d ∷ changes) (d ∷ placed changes c))
    by true rest = (leaf, number, read, (first, of, told, more))
    by false rest = (first, of, told, rest)

read_fold : (nodes : List Placed) (changes : Numbered) (sorted : List Placed) (ordered : Numbered) → AreRead nodes changes → AreRead sorted ordered → AreRead (fold placed_node sorted nodes) (fold placed ordered changes)
read_fold [] [] sorted ordered r s = s
read_fold [] (c ∷ changes) sorted ordered r s = absurd r
read_fold (x ∷ nodes) [] sorted ordered r s = absurd r
read_fold (x ∷ nodes) (c ∷ changes) sorted ordered (leaf, number, read, more) s = read_fold nodes changes (placed_node sorted x) (placed ordered c) more (read_placed sorted ordered x c s leaf number read)

pub read_in_order : (nodes : List Placed) (changes : Numbered) → AreRead nodes changes → AreRead (nodes_in_order nodes) (by_number changes)
read_in_order nodes changes r = read_fold nodes changes [] [] r tt

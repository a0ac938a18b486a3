-- A node that becomes a leaf has the key of what it shows; what is read of a node is carried by it.
use Rattle.std.proofs.Common.{◌≡◌, Bool, true, false, cond, refl, subst, Option, Some, None}
use Rattle.std.specs.Prelude.{◌==◌}
use Rattle.std.specs.Option.{option_map}
use Rattle.ubifs_base.specs.declared.key.Key.TheVariants.{Ino, Dent, Xent}
use Rattle.ubifs_base.specs.R5.{r5_of}
use Rattle.media_leaf.specs.LeafNode.{LeafNode, IsLeaf, inode, block, entry, truncation}
use Rattle.media_leaf.specs.declared.dent_node.DentNode.{DentNode}
use Rattle.media_leaf.specs.declared.ino_node.InoNode.{InoNode}
use Rattle.index_tree.specs.declared.leaf.Leaf.{Leaf}
use Rattle.fs_model.specs.declared.change.Change.{Change}
use Rattle.fs_model.specs.declared.change.Change.TheVariants.{SetInode, SetEntry, DropEntry, SetBlock, CutBlocks, DropInode}
use Rattle.fs_model.specs.declared.inode.Kind.{Kind}
use Rattle.group_nodes.specs.Nodes.{bits_of, change_of, inode_of, kind_of_bits, kind_of_type}
use Rattle.leaf_map.specs.After.{ShowsChange, is_set}
use Rattle.leaf_map.specs.Kept.{node_key, shown}
use Rattle.leaf_map.specs.LeafMap.{HasKeyOf}

inode_keyed : (node : InoNode) (leaf : Leaf) (k : Option Kind) (change : Change) → leaf.key ≡ Ino node.ino → option_map (λ kind. SetInode node.ino (inode_of node kind)) k ≡ Some change → HasKeyOf leaf (Some change)
inode_keyed node leaf None change key e = absurd cc
inode_keyed node leaf (Some kind) change key e = subst (HasKeyOf leaf) e key

entry_keyed : (node : DentNode) (leaf : Leaf) (k : Option Kind) (change : Change) (a z : Bool) → leaf.key ≡ cond a (Xent node.dir (r5_of node.name)) (Dent node.dir (r5_of node.name))
    → cond a None (cond z (Some (DropEntry node.dir node.name)) (option_map (λ kind. SetEntry (record { dir = node.dir; name = node.name; ino = node.inum; kind = kind })) k)) ≡ Some change
    → is_set change ≡ true → HasKeyOf leaf (Some change)
entry_keyed node leaf k change true z key e set = absurd cc
entry_keyed node leaf k change false true key e set =
    let P : Option Change → Type 0 = λ s. option_map is_set s ≡ Some false in
    let no : option_map is_set (Some change) ≡ Some false = subst P e refl in
    absurd cc
entry_keyed node leaf None change false false key e set = absurd cc
entry_keyed node leaf (Some kind) change false false key e set = subst (HasKeyOf leaf) e key

-- the leaf that a node becomes has the key of what it shows
pub node_keyed : (node : LeafNode) (leaf : Leaf) (change : Change) → leaf.key ≡ node_key node → IsLeaf node → shown node ≡ Some change → is_set change ≡ true → HasKeyOf leaf (Some change)
node_keyed (inode node) leaf change key is e set = inode_keyed node leaf (kind_of_bits (bits_of node.mode)) change key e
node_keyed (block node) leaf change key is e set = subst (HasKeyOf leaf) e (key, is.block_fits)
node_keyed (entry node) leaf change key is e set = entry_keyed node leaf (kind_of_type node.kind) change node.attribute (node.inum == 0) key e set
node_keyed (truncation node) leaf change key is e set =
    let P : Option Change → Type 0 = λ s. option_map is_set s ≡ Some false in
    let no : option_map is_set (Some change) ≡ Some false = subst P e refl in
    absurd cc

inode_carried : (node : InoNode) (change : Change) (z : Bool) → (node.nlink == 0) ≡ z
    → cond z (Some (DropInode node.ino)) (option_map (λ kind. SetInode node.ino (inode_of node kind)) (kind_of_bits (bits_of node.mode))) ≡ Some change → ShowsChange change (inode node)
inode_carried node change true h e =
    let same : DropInode node.ino ≡ change = cc in
    subst (λ c. ShowsChange c (inode node)) same (rw h refl)
inode_carried node change false h e = by (kind_of_bits (bits_of node.mode)) refl e
  where
    by : (k : Option Kind) → kind_of_bits (bits_of node.mode) ≡ k → option_map (λ kind. SetInode node.ino (inode_of node kind)) k ≡ Some change → ShowsChange change (inode node)
    by None x f = absurd cc
    by (Some kind) x f =
        let same : SetInode node.ino (inode_of node kind) ≡ change = cc in
        subst (λ c. ShowsChange c (inode node)) same (rw x refl)

entry_carried : (node : DentNode) (change : Change) (k : Option Kind) (a z : Bool) → shown (entry node) ≡ Some change
    → cond a None (cond z (Some (DropEntry node.dir node.name)) (option_map (λ kind. SetEntry (record { dir = node.dir; name = node.name; ino = node.inum; kind = kind })) k)) ≡ Some change → ShowsChange change (entry node)
entry_carried node change k true z s e = absurd cc
entry_carried node change k false true s e = let same : DropEntry node.dir node.name ≡ change = cc in subst (λ c. shown (entry node) ≡ Some c → ShowsChange c (entry node)) same (λ t. t) s
entry_carried node change None false false s e = absurd cc
entry_carried node change (Some kind) false false s e =
    let same : SetEntry (record { dir = node.dir; name = node.name; ino = node.inum; kind = kind }) ≡ change = cc in
    subst (λ c. shown (entry node) ≡ Some c → ShowsChange c (entry node)) same (λ t. t) s

-- a node carries what is read of it
pub read_carried : (node : LeafNode) (change : Change) → change_of node ≡ Some change → ShowsChange change node
read_carried (inode node) change e = inode_carried node change (node.nlink == 0) refl e
read_carried (block node) change e = let same : SetBlock node.ino node.block node.bytes ≡ change = cc in subst (λ c. ShowsChange c (block node)) same refl
read_carried (entry node) change e = entry_carried node change (kind_of_type node.kind) node.attribute (node.inum == 0) e e
read_carried (truncation node) change e = let same : CutBlocks node.ino node.old_size node.new_size ≡ change = cc in subst (λ c. ShowsChange c (truncation node)) same refl

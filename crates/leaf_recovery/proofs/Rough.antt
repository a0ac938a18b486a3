-- What is told of a node is the change that it shows, or carries, without its data.
use Rattle.std.proofs.Common.{◌≡◌, ℕ, zero, suc, ◌≤◌, arith, Bool, true, false, cond, not, ◌&&◌, refl, sym, ap, ◌∙◌, Option, Some, None, []}
use Rattle.std.specs.Prelude.{◌==◌, is_some}
use Rattle.std.specs.Option.{option_map}
use Rattle.std.proofs.lemmas.Bool.{false≢true}
use Rattle.ubifs_base.specs.Key.{key_words}
use Rattle.ubifs_base.specs.R5.{r5_of}
use Rattle.ubifs_base.specs.declared.key.Key.TheVariants.{Ino, Dent, Xent}
use Rattle.media_leaf.specs.LeafNode.{LeafNode, IsLeaf, inode, block, entry, truncation}
use Rattle.media_leaf.specs.declared.dent_node.DentNode.{DentNode}
use Rattle.media_leaf.specs.declared.ino_node.InoNode.{InoNode}
use Rattle.fs_model.specs.declared.change.Change.{Change}
use Rattle.fs_model.specs.declared.change.Change.TheVariants.{SetInode, SetEntry, SetBlock, DropEntry, CutBlocks, DropInode}
use Rattle.fs_model.specs.declared.inode.Inode.{Inode as AnInode}
use Rattle.fs_model.specs.declared.inode.Kind.{Kind}
use Rattle.fs_model.specs.declared.inode.Kind.TheVariants.{File}
use Rattle.group_nodes.specs.Nodes.{bits_of, change_of, gone_inode, inode_of, kind_of_bits, kind_of_type}
use Rattle.leaf_map.specs.After.{goes, is_inode, is_set}
use Rattle.leaf_map.specs.Kept.{node_key, shown}
use Rattle.leaf_map.specs.LeafMap.{shows_same}
use Rattle.leaf_map.specs.Parts.{is_shown}
use Rattle.leaf_map.specs.Recovered.{is_unlinked}
use Rattle.journal_scan.specs.Content.{node_content_of}
use Rattle.journal_scan.specs.declared.node_content.NodeContent.{NodeContent}
use Rattle.journal_scan.specs.declared.node_content.NodeContent.TheVariants.{Inode, Block, Entry, Truncation, Unknown}
use Rattle.log_replay.specs.Things.{is_inode_told}
use Rattle.leaf_recovery.specs.Things.{becomes_leaf, ends_told, is_part_told, is_unlinked_told, node_key_told, shows_thing, shows_told}

-- an inode of which is kept whether it has links
abbrev pub blank : Bool → AnInode
blank bare = record gone_inode { nlink = cond bare 0 1 }

-- a change without its data
abbrev pub rough : Change → Change
rough (SetInode ino set) = SetInode ino (blank (set.nlink == 0))
rough (SetEntry e) = SetEntry (record { dir = e.dir; name = e.name; ino = 0; kind = File })
rough (DropEntry dir name) = DropEntry dir name
rough (SetBlock ino number bytes) = SetBlock ino number []
rough (CutBlocks ino old_size new_size) = CutBlocks ino 0 new_size
rough (DropInode ino) = DropInode ino

abbrev pub rough_of : Option Change → Option Change
rough_of None = None
rough_of (Some change) = Some (rough change)

-- ---- what is asked of changes needs no data
goes_rough : (c : Change) (s : Option Change) → goes (rough c) (rough_of s) ≡ goes c s
goes_rough (SetInode a x) None = refl
goes_rough (SetInode a x) (Some (SetInode b y)) = refl
goes_rough (SetInode a x) (Some t) = refl
goes_rough (SetEntry e) None = refl
goes_rough (SetEntry e) (Some (SetEntry f)) = refl
goes_rough (SetEntry e) (Some t) = refl
goes_rough (DropEntry d n) None = refl
goes_rough (DropEntry d n) (Some (SetEntry f)) = refl
goes_rough (DropEntry d n) (Some t) = refl
goes_rough (SetBlock a n x) None = refl
goes_rough (SetBlock a n x) (Some (SetBlock b m y)) = refl
goes_rough (SetBlock a n x) (Some t) = refl
goes_rough (CutBlocks a o n) None = refl
goes_rough (CutBlocks a o n) (Some (SetBlock b m y)) = refl
goes_rough (CutBlocks a o n) (Some t) = refl
goes_rough (DropInode a) None = refl
goes_rough (DropInode a) (Some (SetInode b y)) = refl
goes_rough (DropInode a) (Some (SetBlock b m y)) = refl
goes_rough (DropInode a) (Some t) = refl

pub shows_rough : (s t : Option Change) → shows_same (rough_of s) (rough_of t) ≡ shows_same s t
shows_rough None t = refl
shows_rough (Some c) t = goes_rough c t

set_rough : (c : Change) → is_set (rough c) ≡ is_set c
set_rough (SetInode a x) = refl
set_rough (SetEntry e) = refl
set_rough (SetBlock a n x) = refl
set_rough c = refl

pub shown_rough : (s : Option Change) → is_shown (rough_of s) ≡ is_shown s
shown_rough None = refl
shown_rough (Some c) = set_rough c

bare : (b : Bool) → (cond b 0 1 == 0) ≡ b
bare true = refl
bare false = refl

pub unlinked_rough : (ino : ℕ) (s : Option Change) → is_unlinked ino (rough_of s) ≡ is_unlinked ino s
unlinked_rough ino None = refl
unlinked_rough ino (Some (SetInode a x)) = ap (λ (b : Bool). (a == ino) && b) (bare (x.nlink == 0))
unlinked_rough ino (Some t) = refl

pub inode_rough : (ino : ℕ) (s : Option Change) → is_inode ino (rough_of s) ≡ is_inode ino s
inode_rough ino None = refl
inode_rough ino (Some (SetInode a x)) = refl
inode_rough ino (Some t) = refl

-- ---- what is told is such a change
-- what is shown
abbrev pub shown_told : NodeContent → Option Change
shown_told (Inode ino linked) = Some (SetInode ino (blank (not linked)))
shown_told (Block ino number) = Some (SetBlock ino number [])
shown_told (Entry dir name true) = Some (SetEntry (record { dir = dir; name = name; ino = 0; kind = File }))
shown_told (Entry dir name false) = Some (DropEntry dir name)
shown_told (Truncation ino size) = Some (CutBlocks ino 0 size)
shown_told (Unknown key linked) = None

-- what is carried
abbrev pub change_told : NodeContent → Option Change
change_told (Inode ino true) = Some (SetInode ino (blank false))
change_told (Inode ino false) = Some (DropInode ino)
change_told (Block ino number) = Some (SetBlock ino number [])
change_told (Entry dir name true) = Some (SetEntry (record { dir = dir; name = name; ino = 0; kind = File }))
change_told (Entry dir name false) = Some (DropEntry dir name)
change_told (Truncation ino size) = Some (CutBlocks ino 0 size)
change_told (Unknown key true) = None
change_told (Unknown key false) = Some (DropInode (key_words key).0)

pub shows_is : (c d : NodeContent) → shows_told c d ≡ shows_same (shown_told c) (shown_told d)
shows_is (Inode a l) (Inode b m) = refl
shows_is (Inode a l) (Entry d n true) = refl
shows_is (Inode a l) (Entry d n false) = refl
shows_is (Inode a l) d = refl
shows_is (Block a k) (Block b m) = refl
shows_is (Block a k) (Entry d n true) = refl
shows_is (Block a k) (Entry d n false) = refl
shows_is (Block a k) d = refl
shows_is (Entry p q true) (Entry d n true) = refl
shows_is (Entry p q true) (Entry d n false) = refl
shows_is (Entry p q true) d = refl
shows_is (Entry p q false) (Entry d n true) = refl
shows_is (Entry p q false) (Entry d n false) = refl
shows_is (Entry p q false) d = refl
shows_is (Truncation a z) (Block b m) = refl
shows_is (Truncation a z) (Entry d n true) = refl
shows_is (Truncation a z) (Entry d n false) = refl
shows_is (Truncation a z) d = refl
shows_is (Unknown k l) d = refl

pub part_is : (ino : ℕ) (d : NodeContent) → shows_same (Some (DropInode ino)) (shown_told d) ≡ is_part_told ino d
part_is ino (Inode b m) = refl
part_is ino (Block b m) = refl
part_is ino (Entry d n true) = refl
part_is ino (Entry d n false) = refl
part_is ino (Truncation b m) = refl
part_is ino (Unknown k l) = refl

pub ends_is : (c d : NodeContent) → ends_told c d ≡ shows_same (change_told c) (shown_told d)
ends_is (Inode a true) d = shows_is (Inode a true) d ∙ first d
  where
    first : (d : NodeContent) → shows_same (shown_told (Inode a true)) (shown_told d) ≡ shows_same (change_told (Inode a true)) (shown_told d)
    first d = refl
ends_is (Inode a false) d = sym (part_is a d)
ends_is (Block a k) d = shows_is (Block a k) d
ends_is (Entry p q true) d = shows_is (Entry p q true) d
ends_is (Entry p q false) d = shows_is (Entry p q false) d
ends_is (Truncation a z) d = shows_is (Truncation a z) d
ends_is (Unknown k true) d = refl
ends_is (Unknown k false) d = sym (part_is (key_words k).0 d)

pub thing_is : (c : NodeContent) → shows_thing c ≡ is_shown (shown_told c)
thing_is (Inode a l) = refl
thing_is (Block a k) = refl
thing_is (Entry p q true) = refl
thing_is (Entry p q false) = refl
thing_is (Truncation a z) = refl
thing_is (Unknown k l) = refl

pub becomes_is : (c : NodeContent) → becomes_leaf c ≡ is_shown (change_told c)
becomes_is (Inode a true) = refl
becomes_is (Inode a false) = refl
becomes_is (Block a k) = refl
becomes_is (Entry p q true) = refl
becomes_is (Entry p q false) = refl
becomes_is (Truncation a z) = refl
becomes_is (Unknown k true) = refl
becomes_is (Unknown k false) = refl

pub unlinked_is : (ino : ℕ) (c : NodeContent) → is_unlinked_told ino c ≡ is_unlinked ino (shown_told c)
unlinked_is ino (Inode a true) = refl
unlinked_is ino (Inode a false) = refl
unlinked_is ino (Block a k) = refl
unlinked_is ino (Entry p q true) = refl
unlinked_is ino (Entry p q false) = refl
unlinked_is ino (Truncation a z) = refl
unlinked_is ino (Unknown k l) = refl

pub inode_is : (ino : ℕ) (c : NodeContent) → is_inode_told ino c ≡ is_inode ino (shown_told c)
inode_is ino (Inode a l) = refl
inode_is ino (Block a k) = refl
inode_is ino (Entry p q true) = refl
inode_is ino (Entry p q false) = refl
inode_is ino (Truncation a z) = refl
inode_is ino (Unknown k l) = refl

-- ---- what is told of a node
not_not : (b : Bool) → not (not b) ≡ b
not_not true = refl
not_not false = refl

inode_shown : (node : InoNode) (k : Option Kind)
    → shown_told (cond (is_some k) (Inode node.ino (not (node.nlink == 0))) (Unknown (Ino node.ino) (not (node.nlink == 0)))) ≡ rough_of (option_map (λ kind. SetInode node.ino (inode_of node kind)) k)
inode_shown node None = refl
inode_shown node (Some kind) = ap (λ (b : Bool). Some (SetInode node.ino (blank b))) (not_not (node.nlink == 0))

inode_carried : (node : InoNode) (z : Bool) (k : Option Kind) → (node.nlink == 0) ≡ z
    → change_told (cond (is_some k) (Inode node.ino (not z)) (Unknown (Ino node.ino) (not z))) ≡ rough_of (cond z (Some (DropInode node.ino)) (option_map (λ kind. SetInode node.ino (inode_of node kind)) k))
inode_carried node true None e = refl
inode_carried node true (Some kind) e = refl
inode_carried node false None e = refl
inode_carried node false (Some kind) e = ap (λ (b : Bool). Some (SetInode node.ino (blank b))) (sym e)

-- an entry's node is of a known kind
known : (k : ℕ) → k ≤ 6 → is_some (kind_of_type k) ≡ true
known zero h = refl
known (suc zero) h = refl
known (suc (suc zero)) h = refl
known (suc (suc (suc zero))) h = refl
known (suc (suc (suc (suc zero)))) h = refl
known (suc (suc (suc (suc (suc zero))))) h = refl
known (suc (suc (suc (suc (suc (suc zero)))))) h = refl
known (suc (suc (suc (suc (suc (suc (suc k))))))) h = absurd (omega (arith, h))

entry_shown : (node : DentNode) (a z : Bool) (k : Option Kind) → is_some k ≡ true
    → shown_told (cond a (Unknown (Xent node.dir (r5_of node.name)) true) (Entry node.dir node.name (not z)))
    ≡ rough_of (cond a None (cond z (Some (DropEntry node.dir node.name)) (option_map (λ kind. SetEntry (record { dir = node.dir; name = node.name; ino = node.inum; kind = kind })) k)))
entry_shown node true z k h = refl
entry_shown node false true k h = refl
entry_shown node false false None h = absurd (false≢true h)
entry_shown node false false (Some kind) h = refl

entry_carried : (node : DentNode) (a z : Bool) (k : Option Kind) → is_some k ≡ true
    → change_told (cond a (Unknown (Xent node.dir (r5_of node.name)) true) (Entry node.dir node.name (not z)))
    ≡ rough_of (cond a None (cond z (Some (DropEntry node.dir node.name)) (option_map (λ kind. SetEntry (record { dir = node.dir; name = node.name; ino = node.inum; kind = kind })) k)))
entry_carried node true z k h = refl
entry_carried node false true k h = refl
entry_carried node false false None h = absurd (false≢true h)
entry_carried node false false (Some kind) h = refl

pub shown_of : (node : LeafNode) → IsLeaf node → shown_told (node_content_of node) ≡ rough_of (shown node)
shown_of (inode node) leaf = inode_shown node (kind_of_bits (bits_of node.mode))
shown_of (block node) leaf = refl
shown_of (entry node) leaf = entry_shown node node.attribute (node.inum == 0) (kind_of_type node.kind) (known node.kind leaf.kind_known)
shown_of (truncation node) leaf = refl

pub carried_of : (node : LeafNode) → IsLeaf node → change_told (node_content_of node) ≡ rough_of (change_of node)
carried_of (inode node) leaf = inode_carried node (node.nlink == 0) (kind_of_bits (bits_of node.mode)) refl
carried_of (block node) leaf = refl
carried_of (entry node) leaf = entry_carried node node.attribute (node.inum == 0) (kind_of_type node.kind) (known node.kind leaf.kind_known)
carried_of (truncation node) leaf = refl

inode_keyed : (node : InoNode) (k l : Bool) → node_key_told (cond k (Inode node.ino l) (Unknown (Ino node.ino) l)) ≡ Ino node.ino
inode_keyed node true l = refl
inode_keyed node false l = refl

entry_keyed : (node : DentNode) (a l : Bool)
    → node_key_told (cond a (Unknown (Xent node.dir (r5_of node.name)) true) (Entry node.dir node.name l)) ≡ cond a (Xent node.dir (r5_of node.name)) (Dent node.dir (r5_of node.name))
entry_keyed node true l = refl
entry_keyed node false l = refl

pub key_of_is : (node : LeafNode) → node_key_told (node_content_of node) ≡ node_key node
key_of_is (inode node) = inode_keyed node (is_some (kind_of_bits (bits_of node.mode))) (not (node.nlink == 0))
key_of_is (block node) = refl
key_of_is (entry node) = entry_keyed node node.attribute (not (node.inum == 0))
key_of_is (truncation node) = refl

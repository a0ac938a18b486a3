-- What a change makes of leaves is what it makes of the tree that they show.
use Rattle.std.proofs.Common.{◌≡◌, ℕ, Bool, true, false, cond, not, List, max, refl, ap, subst, ◌∙◌, Option, Some, None}
use Rattle.std.specs.Prelude.{filter, is_some}
use Rattle.std.proofs.lemmas.Bool.{false≢true}
use Rattle.media_leaf.specs.LeafNode.{IsLeaf}
use Rattle.index_tree.specs.Order.{leaf_rank}
use Rattle.fs_model.specs.declared.change.Change.{Change}
use Rattle.fs_model.specs.declared.change.Change.TheVariants.{SetInode, SetEntry, DropEntry, SetBlock, CutBlocks, DropInode}
use Rattle.fs_model.specs.declared.inode.Inode.{Inode}
use Rattle.fs_model.specs.declared.inode.Entry.{Entry}
use Rattle.fs_model.specs.Change.{applied, changed, key_number}
use Rattle.fs_model.specs.Files.{Tree, Inodes, Blocks, Entries, inode_at, with_block as set_block}
use Rattle.group_nodes.specs.Nodes.{change_of}
use Rattle.leaf_map.specs.After.{ShowsChange, goes, has_inode, is_gone, is_idle, is_set, kept_after, kept_by, kept_with, put_leaf, read}
use Rattle.leaf_map.specs.Kept.{Kept, Placed, kept_at, shown, shown_by}
use Rattle.leaf_map.specs.KeyedLaws.{node_keyed, read_carried}
use Rattle.leaf_map.specs.LeafMap.{HasKeyOf, IsLeafMap}
use Rattle.leaf_map.specs.RankLaws.{rank_is, rank_shown}
use Rattle.leaf_map.specs.Shown.{blocks_shown_by, entries_of, inodes_of, tree_of, with_shown_block, with_entry, with_shown_inode}
use Rattle.leaf_map.proofs.Apart.{filter_map, put_map}
use Rattle.leaf_map.proofs.Blocks.{cut_leaves, drop_blocks, put_blocks, read_blocks}
use Rattle.leaf_map.proofs.Drops.{drop_inodes}
use Rattle.leaf_map.proofs.Inodes.{has_is, put_inodes, read_inodes}
use Rattle.leaf_map.proofs.Names.{drop_entries, put_entries, read_entries}
use Rattle.leaf_map.proofs.Steps.{drop_leaves, put_leaves}

abbrev pub tree : Inodes → Blocks → Entries → ℕ → Tree
tree inodes blocks entries highest = record { inodes = inodes; blocks = blocks; entries = entries; highest = highest }

pub tree_is : (a b : Inodes) (c d : Blocks) (e f : Entries) (highest : ℕ) → a ≡ b → c ≡ d → e ≡ f → tree a c e highest ≡ tree b d f highest
tree_is a b c d e f highest i j k = ap (λ z. tree z c e highest) i ∙ ap (λ z. tree b z e highest) j ∙ ap (λ z. tree b d z highest) k

-- ---- what isn't touched
inode_no_block : (ino : ℕ) (inode : Inode) (s : Option Change) (a : Blocks) → goes (SetInode ino inode) s ≡ true → with_shown_block s a ≡ a
inode_no_block ino inode (Some (SetBlock other at old)) a h = absurd (false≢true h)
inode_no_block ino inode s a h = refl

inode_no_entry : (ino : ℕ) (inode : Inode) (s : Option Change) (a : Entries) → goes (SetInode ino inode) s ≡ true → with_entry s a ≡ a
inode_no_entry ino inode (Some (SetEntry old)) a h = absurd (false≢true h)
inode_no_entry ino inode s a h = refl

block_no_inode : (ino number : ℕ) (bytes : List ℕ) (s : Option Change) (a : Inodes) → goes (SetBlock ino number bytes) s ≡ true → with_shown_inode s a ≡ a
block_no_inode ino number bytes (Some (SetInode other old)) a h = absurd (false≢true h)
block_no_inode ino number bytes s a h = refl

block_no_entry : (ino number : ℕ) (bytes : List ℕ) (s : Option Change) (a : Entries) → goes (SetBlock ino number bytes) s ≡ true → with_entry s a ≡ a
block_no_entry ino number bytes (Some (SetEntry old)) a h = absurd (false≢true h)
block_no_entry ino number bytes s a h = refl

entry_no_inode : (e : Entry) (s : Option Change) (a : Inodes) → goes (SetEntry e) s ≡ true → with_shown_inode s a ≡ a
entry_no_inode e (Some (SetInode other old)) a h = absurd (false≢true h)
entry_no_inode e s a h = refl

entry_no_block : (e : Entry) (s : Option Change) (a : Blocks) → goes (SetEntry e) s ≡ true → with_shown_block s a ≡ a
entry_no_block e (Some (SetBlock other at old)) a h = absurd (false≢true h)
entry_no_block e s a h = refl

name_no_inode : (dir : ℕ) (name : List ℕ) (s : Option Change) (a : Inodes) → goes (DropEntry dir name) s ≡ true → with_shown_inode s a ≡ a
name_no_inode dir name (Some (SetInode other old)) a h = absurd (false≢true h)
name_no_inode dir name s a h = refl

name_no_block : (dir : ℕ) (name : List ℕ) (s : Option Change) (a : Blocks) → goes (DropEntry dir name) s ≡ true → with_shown_block s a ≡ a
name_no_block dir name (Some (SetBlock other at old)) a h = absurd (false≢true h)
name_no_block dir name s a h = refl

cut_no_inode : (ino old_size new_size : ℕ) (s : Option Change) (a : Inodes) → goes (CutBlocks ino old_size new_size) s ≡ true → with_shown_inode s a ≡ a
cut_no_inode ino old_size new_size (Some (SetInode other old)) a h = absurd (false≢true h)
cut_no_inode ino old_size new_size s a h = refl

cut_no_entry : (ino old_size new_size : ℕ) (s : Option Change) (a : Entries) → goes (CutBlocks ino old_size new_size) s ≡ true → with_entry s a ≡ a
cut_no_entry ino old_size new_size (Some (SetEntry old)) a h = absurd (false≢true h)
cut_no_entry ino old_size new_size s a h = refl

drop_no_entry : (ino : ℕ) (s : Option Change) (a : Entries) → goes (DropInode ino) s ≡ true → with_entry s a ≡ a
drop_no_entry ino (Some (SetEntry old)) a h = absurd (false≢true h)
drop_no_entry ino s a h = refl

-- ---- the tree
-- what is asked of the leaf that a node becomes: it shows what is set, and has its key
pub record Becomes (change : Change) (new : Kept) : Type 0 where
  pub shows : shown_by new ≡ Some change
  pub key : HasKeyOf new.leaf (Some change)

pub becomes : (change : Change) (new : Placed) → IsLeaf new.node → shown new.node ≡ Some change → is_set change ≡ true → Becomes change (kept_at new)
becomes change new is shows set = record { shows = shows; key = node_keyed new.node (kept_at new).leaf change refl is shows set }

set_inode : (ino : ℕ) (inode : Inode) (new : Kept) (kept : List Kept) (highest : ℕ) → Becomes (SetInode ino inode) new → IsLeafMap kept
    → tree_of (put_leaf (is_gone (SetInode ino inode)) new kept) (max highest ino) ≡ applied (tree_of kept highest) (SetInode ino inode)
set_inode ino inode new kept highest b is =
    let c : Change = SetInode ino inode in
    let after : List Kept = put_leaf (is_gone c) new kept in
    let rank = rank_is new.leaf (Some c) b.key in
    let blocks = put_leaves with_shown_block blocks_shown_by c new read_blocks (λ a. ap (λ s. with_shown_block s a) b.shows) (inode_no_block ino inode) kept in
    let entries = put_leaves with_entry entries_of c new read_entries (λ a. ap (λ s. with_entry s a) b.shows) (inode_no_entry ino inode) kept in
    tree_is (inodes_of after) (changed (tree_of kept highest) c).inodes (blocks_shown_by after) (blocks_shown_by kept) (entries_of after) (entries_of kept) (max highest ino)
    (put_inodes ino inode new 0 kept b.shows rank is.keyed is.ordered) blocks entries

set_entry : (e : Entry) (new : Kept) (kept : List Kept) (highest : ℕ) → Becomes (SetEntry e) new → IsLeafMap kept
    → tree_of (put_leaf (is_gone (SetEntry e)) new kept) (max highest e.dir) ≡ applied (tree_of kept highest) (SetEntry e)
set_entry e new kept highest b is =
    let c : Change = SetEntry e in
    let after : List Kept = put_leaf (is_gone c) new kept in
    let inodes = put_leaves with_shown_inode inodes_of c new read_inodes (λ a. ap (λ s. with_shown_inode s a) b.shows) (entry_no_inode e) kept in
    let blocks = put_leaves with_shown_block blocks_shown_by c new read_blocks (λ a. ap (λ s. with_shown_block s a) b.shows) (entry_no_block e) kept in
    tree_is (inodes_of after) (inodes_of kept) (blocks_shown_by after) (blocks_shown_by kept) (entries_of after) (changed (tree_of kept highest) c).entries (max highest e.dir)
    inodes blocks (put_entries e new kept b.shows)

put_block : (ino number : ℕ) (bytes : List ℕ) (new : Kept) (kept : List Kept) (highest : ℕ) → Becomes (SetBlock ino number bytes) new → IsLeafMap kept
    → tree_of (put_leaf (is_gone (SetBlock ino number bytes)) new kept) highest ≡ tree (inodes_of kept) (set_block (blocks_shown_by kept) ino number bytes) (entries_of kept) highest
put_block ino number bytes new kept highest b is =
    let c : Change = SetBlock ino number bytes in
    let after : List Kept = put_leaf (is_gone c) new kept in
    let rank = rank_is new.leaf (Some c) b.key in
    let inodes = put_leaves with_shown_inode inodes_of c new read_inodes (λ a. ap (λ s. with_shown_inode s a) b.shows) (block_no_inode ino number bytes) kept in
    let entries = put_leaves with_entry entries_of c new read_entries (λ a. ap (λ s. with_entry s a) b.shows) (block_no_entry ino number bytes) kept in
    tree_is (inodes_of after) (inodes_of kept) (blocks_shown_by after) (set_block (blocks_shown_by kept) ino number bytes) (entries_of after) (entries_of kept) highest
    inodes (put_blocks ino number bytes new 0 kept b.key.1 b.shows rank is.keyed is.ordered) entries

set_blocks : (ino number : ℕ) (bytes : List ℕ) (new : Kept) (kept : List Kept) (highest : ℕ) → Becomes (SetBlock ino number bytes) new → IsLeafMap kept
    → tree_of (kept_by (SetBlock ino number bytes) new kept) (max highest ino) ≡ applied (tree_of kept highest) (SetBlock ino number bytes)
set_blocks ino number bytes new kept highest b is = by (has_inode kept ino) (is_some (inode_at (tree_of kept highest) ino)) (has_is ino kept)
  where
    c : Change
    c = SetBlock ino number bytes

    set : Tree
    set = record (tree_of kept highest) { blocks = set_block (blocks_shown_by kept) ino number bytes }

    by : (h t : Bool) → h ≡ t → tree_of (cond (not h) kept (put_leaf (is_gone c) new kept)) (max highest ino) ≡ record (cond t set (tree_of kept highest)) { highest = max highest ino }
    by true true e = put_block ino number bytes new kept (max highest ino) b is
    by true false e = absurd cc
    by false true e = absurd cc
    by false false e = refl

drop_name : (dir : ℕ) (name : List ℕ) (kept : List Kept) (highest : ℕ) → tree_of (filter (λ x. not (is_gone (DropEntry dir name) x)) kept) (max highest dir) ≡ applied (tree_of kept highest) (DropEntry dir name)
drop_name dir name kept highest =
    let c : Change = DropEntry dir name in
    let after : List Kept = filter (λ x. not (is_gone c x)) kept in
    tree_is (inodes_of after) (inodes_of kept) (blocks_shown_by after) (blocks_shown_by kept) (entries_of after) (changed (tree_of kept highest) c).entries (max highest dir)
    (drop_leaves with_shown_inode inodes_of c read_inodes (name_no_inode dir name) kept) (drop_leaves with_shown_block blocks_shown_by c read_blocks (name_no_block dir name) kept) (drop_entries dir name kept)

cut : (ino old_size new_size : ℕ) (kept : List Kept) (highest : ℕ) → tree_of (filter (λ x. not (is_gone (CutBlocks ino old_size new_size) x)) kept) (max highest ino) ≡ applied (tree_of kept highest) (CutBlocks ino old_size new_size)
cut ino old_size new_size kept highest =
    let c : Change = CutBlocks ino old_size new_size in
    let after : List Kept = filter (λ x. not (is_gone c x)) kept in
    tree_is (inodes_of after) (inodes_of kept) (blocks_shown_by after) (changed (tree_of kept highest) c).blocks (entries_of after) (entries_of kept) (max highest ino)
    (drop_leaves with_shown_inode inodes_of c read_inodes (cut_no_inode ino old_size new_size) kept) (cut_leaves ino old_size new_size kept) (drop_leaves with_entry entries_of c read_entries (cut_no_entry ino old_size new_size) kept)

pub drop_inode : (ino : ℕ) (kept : List Kept) (highest now : ℕ) → IsLeafMap kept → tree_of (filter (λ x. not (is_gone (DropInode ino) x)) kept) now ≡ record (changed (tree_of kept highest) (DropInode ino)) { highest = now }
drop_inode ino kept highest now is =
    let c : Change = DropInode ino in
    let after : List Kept = filter (λ x. not (is_gone c x)) kept in
    tree_is (inodes_of after) (changed (tree_of kept highest) c).inodes (blocks_shown_by after) (changed (tree_of kept highest) c).blocks (entries_of after) (entries_of kept) now
    (drop_inodes ino kept is.apart) (drop_blocks ino kept) (drop_leaves with_entry entries_of c read_entries (drop_no_entry ino) kept)

-- the tree of the leaves after a change is the change applied to the tree
pub tree_after : (change : Change) (new : Placed) (kept : List Kept) (highest : ℕ) → IsLeaf new.node → ShowsChange change new.node → IsLeafMap kept
    → tree_of (kept_by change (kept_at new) kept) (max highest (key_number change)) ≡ applied (tree_of kept highest) change
tree_after (SetInode ino inode) new kept highest leaf c is = set_inode ino inode (kept_at new) kept highest (becomes (SetInode ino inode) new leaf c refl) is
tree_after (SetEntry e) new kept highest leaf c is = set_entry e (kept_at new) kept highest (becomes (SetEntry e) new leaf c refl) is
tree_after (DropEntry dir name) new kept highest leaf c is = drop_name dir name kept highest
tree_after (SetBlock ino number bytes) new kept highest leaf c is = set_blocks ino number bytes (kept_at new) kept highest (becomes (SetBlock ino number bytes) new leaf c refl) is
tree_after (CutBlocks ino old_size new_size) new kept highest leaf c is = cut ino old_size new_size kept highest
tree_after (DropInode ino) new kept highest leaf c is = drop_inode ino kept highest (max highest ino) is

-- and they are leaves as an index has them
idle_map : (change : Change) (new : Kept) (kept : List Kept) → IsLeafMap kept → IsLeafMap (kept_with change new kept) → (b : Bool) → IsLeafMap (cond b kept (kept_with change new kept))
idle_map change new kept is after true = is
idle_map change new kept is after false = after

pub map_after : (change : Change) (new : Placed) (kept : List Kept) → IsLeaf new.node → ShowsChange change new.node → IsLeafMap kept → IsLeafMap (kept_by change (kept_at new) kept)
map_after (SetInode ino inode) new kept leaf c is = let b = becomes (SetInode ino inode) new leaf c refl in put_map (SetInode ino inode) (kept_at new) kept refl b.shows b.key is
map_after (SetEntry e) new kept leaf c is = let b = becomes (SetEntry e) new leaf c refl in put_map (SetEntry e) (kept_at new) kept refl b.shows b.key is
map_after (SetBlock ino number bytes) new kept leaf c is =
    let b = becomes (SetBlock ino number bytes) new leaf c refl in
    idle_map (SetBlock ino number bytes) (kept_at new) kept is (put_map (SetBlock ino number bytes) (kept_at new) kept refl b.shows b.key is) (is_idle kept (SetBlock ino number bytes))
map_after (DropEntry dir name) new kept leaf c is = filter_map (λ x. not (is_gone (DropEntry dir name) x)) kept is
map_after (CutBlocks ino old_size new_size) new kept leaf c is = filter_map (λ x. not (is_gone (CutBlocks ino old_size new_size) x)) kept is
map_after (DropInode ino) new kept leaf c is = filter_map (λ x. not (is_gone (DropInode ino) x)) kept is

-- what a node that is read makes
pub tree_read : (change : Change) (new : Placed) (kept : List Kept) (highest : ℕ) → IsLeaf new.node → change_of new.node ≡ Some change → IsLeafMap kept
    → tree_of (kept_after kept new) (max highest (key_number change)) ≡ applied (tree_of kept highest) change
tree_read change new kept highest leaf e is = by (change_of new.node) e (read_carried new.node change e)
  where
    by : (c : Option Change) → c ≡ Some change → ShowsChange change new.node → tree_of (read c new kept) (max highest (key_number change)) ≡ applied (tree_of kept highest) change
    by None f carries = absurd cc
    by (Some other) f carries =
        let same : change ≡ other = cc in
        subst (λ (c : Change). tree_of (kept_by c (kept_at new) kept) (max highest (key_number change)) ≡ applied (tree_of kept highest) change) same (tree_after change new kept highest leaf carries is)

pub map_read : (new : Placed) (kept : List Kept) → IsLeaf new.node → IsLeafMap kept → IsLeafMap (kept_after kept new)
map_read new kept leaf is = by (change_of new.node) refl
  where
    by : (c : Option Change) → change_of new.node ≡ c → IsLeafMap (read c new kept)
    by None f = is
    by (Some change) f = map_after change new kept leaf (read_carried new.node change f) is

-- the leaf that a set change's node becomes has the change's place
pub set_rank : (change : Change) (new : Placed) → IsLeaf new.node → ShowsChange change new.node → is_set change ≡ true → leaf_rank (kept_at new).leaf ≡ rank_shown (Some change)
set_rank (SetInode ino inode) new leaf c set = rank_is (kept_at new).leaf (Some (SetInode ino inode)) (becomes (SetInode ino inode) new leaf c refl).key
set_rank (SetEntry e) new leaf c set = rank_is (kept_at new).leaf (Some (SetEntry e)) (becomes (SetEntry e) new leaf c refl).key
set_rank (SetBlock ino number bytes) new leaf c set = rank_is (kept_at new).leaf (Some (SetBlock ino number bytes)) (becomes (SetBlock ino number bytes) new leaf c refl).key
set_rank change new leaf c set = absurd (false≢true set)

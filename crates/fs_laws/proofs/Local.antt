-- What each change keeps by itself: the order of keys, that each leaf is a node, and that no number passes the highest.
use Rattle.std.proofs.Common.{◌≡◌, ℕ, ◌*◌, Bool, true, false, cond, not, ◌&&◌, max, List, [], ◌∷◌, arith}
use Rattle.std.specs.Prelude.{◌==◌, nat_le, is_some}
use Rattle.std.specs.List.{list_all}
use Rattle.std.specs.Map.{keys_of}
use Rattle.std.specs.BTreeMap.{is_at}
use Rattle.std.specs.Ordering.{nat_cmp}
use Rattle.std.proofs.lemmas.Bool.{and_parts}
use Rattle.std.proofs.lemmas.Bool.Decides.{nat_tests}
use Rattle.fs_model.specs.declared.change.Change.{Change}
use Rattle.fs_model.specs.declared.change.Change.TheVariants.{SetInode, SetEntry, DropEntry, SetBlock, CutBlocks, DropInode}
use Rattle.fs_model.specs.Backing.{is_node}
use Rattle.fs_model.specs.Change.{applied, apply}
use Rattle.fs_model.specs.Files.{Tree, Blocks, Inodes, inode_at, pair_cmp, name_cmp, with_block}
use Rattle.fs_model.specs.Proper.{IsProper, ascends, is_inode_node, is_entry_node, is_block_node}
use Rattle.fs_laws.specs.Maps.{all_insert, all_remove, all_filter, all_weaken, insert_ascends, remove_ascends, filter_ascends}
use Rattle.fs_laws.specs.Orders.{numbers, pairs, named}

-- what is said of each leaf by itself
pub record IsLocal (tree : Tree) : Type 0 where
  pub inodes_ascend : ascends nat_cmp (keys_of tree.inodes) ≡ true
  pub blocks_ascend : ascends pair_cmp (keys_of tree.blocks) ≡ true
  pub entries_ascend : ascends name_cmp (keys_of tree.entries) ≡ true
  pub inode_nodes : list_all is_inode_node tree.inodes ≡ true
  pub block_nodes : list_all is_block_node tree.blocks ≡ true
  pub entry_nodes : list_all is_entry_node tree.entries ≡ true
  pub inode_numbers : list_all (λ e. nat_le e.0 tree.highest) tree.inodes ≡ true
  pub block_numbers : list_all (λ e. nat_le e.0.0 tree.highest) tree.blocks ≡ true

pub local_of : (tree : Tree) → IsProper tree → IsLocal tree
local_of tree proper =
    let parts = and_parts (list_all (λ e. nat_le e.0 tree.highest) tree.inodes && list_all (λ e. nat_le e.0.0 tree.highest) tree.blocks) (list_all (λ e. nat_le e.0.0 tree.highest && nat_le e.1.ino tree.highest) tree.entries) proper.numbers in
    let more = and_parts (list_all (λ e. nat_le e.0 tree.highest) tree.inodes) (list_all (λ e. nat_le e.0.0 tree.highest) tree.blocks) parts.0 in
    record {
      inodes_ascend = proper.inodes_ascend;
      blocks_ascend = proper.blocks_ascend;
      entries_ascend = proper.entries_ascend;
      inode_nodes = proper.inode_nodes;
      block_nodes = proper.block_nodes;
      entry_nodes = proper.entry_nodes;
      inode_numbers = more.0;
      block_numbers = more.1;
    }

le_max : (a h k : ℕ) → nat_le a h ≡ true → nat_le a (max h k) ≡ true
le_max a h k t = grind (arith, nat_tests)

le_here : (h k : ℕ) → nat_le k (max h k) ≡ true
le_here h k = grind (arith, nat_tests)

inodes_max : (inodes : Inodes) (h k : ℕ) → list_all (λ e. nat_le e.0 h) inodes ≡ true → list_all (λ e. nat_le e.0 (max h k)) inodes ≡ true
inodes_max inodes h k t = all_weaken (λ e. nat_le e.0 h) (λ e. nat_le e.0 (max h k)) (λ e l. le_max e.0 h k l) inodes t

blocks_max : (blocks : Blocks) (h k : ℕ) → list_all (λ e. nat_le e.0.0 h) blocks ≡ true → list_all (λ e. nat_le e.0.0 (max h k)) blocks ≡ true
blocks_max blocks h k t = all_weaken (λ e. nat_le e.0.0 h) (λ e. nat_le e.0.0 (max h k)) (λ e l. le_max e.0.0 h k l) blocks t

-- a block that is set
abbrev blocks_after : Bool → Tree → ℕ → ℕ → List ℕ → Tree
blocks_after there tree ino block bytes = record (cond there (record tree { blocks = with_block tree.blocks ino block bytes }) tree) { highest = max tree.highest ino }

local_block : (tree : Tree) (ino block : ℕ) (bytes : List ℕ) (there : Bool) → is_block_node ((ino, block), bytes) ≡ true → IsLocal tree → IsLocal (blocks_after there tree ino block bytes)
local_block tree ino block bytes true node local = record {
  inodes_ascend = local.inodes_ascend;
  blocks_ascend = insert_ascends pair_cmp pairs tree.blocks (ino, block) bytes local.blocks_ascend;
  entries_ascend = local.entries_ascend;
  inode_nodes = local.inode_nodes;
  block_nodes = all_insert pair_cmp pairs is_block_node tree.blocks (ino, block) bytes node local.block_nodes;
  entry_nodes = local.entry_nodes;
  inode_numbers = inodes_max tree.inodes tree.highest ino local.inode_numbers;
  block_numbers = all_insert pair_cmp pairs (λ e. nat_le e.0.0 (max tree.highest ino)) tree.blocks (ino, block) bytes (le_here tree.highest ino) (blocks_max tree.blocks tree.highest ino local.block_numbers);
}
local_block tree ino block bytes false node local = record {
  inodes_ascend = local.inodes_ascend;
  blocks_ascend = local.blocks_ascend;
  entries_ascend = local.entries_ascend;
  inode_nodes = local.inode_nodes;
  block_nodes = local.block_nodes;
  entry_nodes = local.entry_nodes;
  inode_numbers = inodes_max tree.inodes tree.highest ino local.inode_numbers;
  block_numbers = blocks_max tree.blocks tree.highest ino local.block_numbers;
}

pub local_after : (tree : Tree) (change : Change) → is_node change ≡ true → IsLocal tree → IsLocal (applied tree change)
local_after tree (SetInode ino inode) node local = record {
  inodes_ascend = insert_ascends nat_cmp numbers tree.inodes ino inode local.inodes_ascend;
  blocks_ascend = local.blocks_ascend;
  entries_ascend = local.entries_ascend;
  inode_nodes = all_insert nat_cmp numbers is_inode_node tree.inodes ino inode node local.inode_nodes;
  block_nodes = local.block_nodes;
  entry_nodes = local.entry_nodes;
  inode_numbers = all_insert nat_cmp numbers (λ e. nat_le e.0 (max tree.highest ino)) tree.inodes ino inode (le_here tree.highest ino) (inodes_max tree.inodes tree.highest ino local.inode_numbers);
  block_numbers = blocks_max tree.blocks tree.highest ino local.block_numbers;
}
local_after tree (SetEntry entry) node local = record {
  inodes_ascend = local.inodes_ascend;
  blocks_ascend = local.blocks_ascend;
  entries_ascend = insert_ascends name_cmp named tree.entries (entry.dir, entry.name) entry local.entries_ascend;
  inode_nodes = local.inode_nodes;
  block_nodes = local.block_nodes;
  entry_nodes = all_insert name_cmp named is_entry_node tree.entries (entry.dir, entry.name) entry (and_parts (is_entry_node ((entry.dir, entry.name), entry)) (not (entry.ino == 0)) node).0 local.entry_nodes;
  inode_numbers = inodes_max tree.inodes tree.highest entry.dir local.inode_numbers;
  block_numbers = blocks_max tree.blocks tree.highest entry.dir local.block_numbers;
}
local_after tree (DropEntry dir name) node local = record {
  inodes_ascend = local.inodes_ascend;
  blocks_ascend = local.blocks_ascend;
  entries_ascend = remove_ascends name_cmp named (is_at (name_cmp (dir, name))) tree.entries local.entries_ascend;
  inode_nodes = local.inode_nodes;
  block_nodes = local.block_nodes;
  entry_nodes = all_remove is_entry_node (is_at (name_cmp (dir, name))) tree.entries local.entry_nodes;
  inode_numbers = inodes_max tree.inodes tree.highest dir local.inode_numbers;
  block_numbers = blocks_max tree.blocks tree.highest dir local.block_numbers;
}
local_after tree (SetBlock ino block bytes) node local = local_block tree ino block bytes (is_some (inode_at tree ino)) node local
local_after tree (CutBlocks ino old_size new_size) node local =
    let kept : (ℕ × ℕ) × List ℕ → Bool = λ b. not ((b.0.0 == ino) && nat_le new_size (4096 * b.0.1)) in
    record {
      inodes_ascend = local.inodes_ascend;
      blocks_ascend = filter_ascends pair_cmp pairs kept tree.blocks local.blocks_ascend;
      entries_ascend = local.entries_ascend;
      inode_nodes = local.inode_nodes;
      block_nodes = all_filter is_block_node kept tree.blocks local.block_nodes;
      entry_nodes = local.entry_nodes;
      inode_numbers = inodes_max tree.inodes tree.highest ino local.inode_numbers;
      block_numbers = all_filter (λ e. nat_le e.0.0 (max tree.highest ino)) kept tree.blocks (blocks_max tree.blocks tree.highest ino local.block_numbers);
    }
local_after tree (DropInode ino) node local =
    let kept : (ℕ × ℕ) × List ℕ → Bool = λ b. not (b.0.0 == ino) in
    record {
      inodes_ascend = remove_ascends nat_cmp numbers (is_at (nat_cmp ino)) tree.inodes local.inodes_ascend;
      blocks_ascend = filter_ascends pair_cmp pairs kept tree.blocks local.blocks_ascend;
      entries_ascend = local.entries_ascend;
      inode_nodes = all_remove is_inode_node (is_at (nat_cmp ino)) tree.inodes local.inode_nodes;
      block_nodes = all_filter is_block_node kept tree.blocks local.block_nodes;
      entry_nodes = local.entry_nodes;
      inode_numbers = all_remove (λ e. nat_le e.0 (max tree.highest ino)) (is_at (nat_cmp ino)) tree.inodes (inodes_max tree.inodes tree.highest ino local.inode_numbers);
      block_numbers = all_filter (λ e. nat_le e.0.0 (max tree.highest ino)) kept tree.blocks (blocks_max tree.blocks tree.highest ino local.block_numbers);
    }

-- and so does a group of nodes
pub local_group : (group : List Change) (tree : Tree) → list_all is_node group ≡ true → IsLocal tree → IsLocal (apply tree group)
local_group [] tree nodes local = local
local_group (change ∷ group) tree nodes local =
    let parts = and_parts (is_node change) (list_all is_node group) nodes in
    local_group group (applied tree change) parts.1 (local_after tree change parts.0 local)

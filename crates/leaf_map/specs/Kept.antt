-- A leaf of an index with the node that stands at its place, and a node that stands somewhere in a journal's LEB.
use Rattle.std.specs.Prelude.{ℕ, Option}
use Rattle.std.specs.Option.{option_map}
use Rattle.ubifs_base.specs.declared.key.Key.{Key}
use Rattle.ubifs_base.specs.declared.key.Key.TheVariants.{Ino, Block}
use Rattle.media_leaf.specs.Entry.{entry_key}
use Rattle.media_leaf.specs.LeafNode.{LeafNode, inode, block, entry, truncation}
use Rattle.index_tree.specs.declared.leaf.Leaf.{Leaf}
use Rattle.fs_model.specs.declared.change.Change.{Change}
use Rattle.fs_model.specs.declared.change.Change.TheVariants.{SetInode}
use Rattle.fs_model.specs.Cover.{round_8}
pub use Rattle.group_nodes.specs.Nodes.{bits_of, kind_of_bits}
use Rattle.group_nodes.specs.Nodes.{change_of, inode_of}

-- a leaf of an index, with the node that stands at its place and that node's sequence number
pub record Kept : Type 0 where
  pub leaf : Leaf
  pub sqnum : ℕ
  pub node : LeafNode

-- a node with its sequence number and group type, and the LEB, offset and length at which it stands
pub record Placed : Type 0 where
  pub node : LeafNode
  pub sqnum : ℕ
  pub group : ℕ
  pub lnum : ℕ
  pub offs : ℕ
  pub len : ℕ

-- the key of a node; a truncation becomes no leaf, and has that of its inode
abbrev pub node_key : LeafNode → Key
node_key (inode node) = Ino node.ino
node_key (block node) = Block node.ino node.block
node_key (entry node) = entry_key node
node_key (truncation node) = Ino node.ino

-- the leaf that a node becomes where it stands
abbrev pub kept_at : Placed → Kept
kept_at new = record {
  leaf = record { key = node_key new.node; lnum = new.lnum; offs = new.offs; len = new.len };
  sqnum = new.sqnum;
  node = new.node;
}

-- What a node shows of the tree, as the change that sets it: an inode, also one without links; a block; a name.
abbrev pub shown : LeafNode → Option Change
shown (inode node) = option_map (λ kind. SetInode node.ino (inode_of node kind)) (kind_of_bits (bits_of node.mode))
shown (block node) = change_of (block node)
shown (entry node) = change_of (entry node)
shown (truncation node) = change_of (truncation node)

-- what a leaf shows
abbrev pub shown_by : Kept → Option Change
shown_by x = shown x.node

-- the bytes that a leaf's node takes of its LEB
abbrev pub kept_bytes : Kept → ℕ
kept_bytes x = round_8 x.leaf.len

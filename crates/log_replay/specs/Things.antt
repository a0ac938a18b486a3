-- Which leaf a node makes of which this is told, and which nodes make the leaf of one inode, block or name.
use Rattle.std.specs.Prelude.{ℕ, ◌==◌, ◌&&◌, Bool, true, false, List, Option, Some, None}
use Rattle.ubifs_base.specs.R5.{r5_of}
use Rattle.ubifs_base.specs.declared.key.Key.{Key}
use Rattle.ubifs_base.specs.declared.key.Key.TheVariants.{Ino, Block as BlockKey, Dent}
use Rattle.index_tree.specs.declared.leaf.Leaf.{Leaf}
use Rattle.index_tree.specs.Removal.{same_leaf}
use Rattle.fs_model.specs.Path.{is_same_name}
use Rattle.journal_scan.specs.declared.node_content.NodeContent.{NodeContent}
use Rattle.journal_scan.specs.declared.node_content.NodeContent.TheVariants.{Inode, Block, Entry, Truncation, Unknown}
use Rattle.journal_scan.specs.declared.journal_node.JournalNode.{JournalNode}
use Rattle.log_replay.specs.Changes.{place_of_node}
use Rattle.log_replay.specs.Standing.{leaf_of_key}

-- the key of the leaf that a node makes, if it sets an inode, a block or a name
abbrev pub key_told : NodeContent → Option Key
key_told (Inode ino linked) = Some (Ino ino)
key_told (Block ino number) = Some (BlockKey ino number)
key_told (Entry dir name true) = Some (Dent dir (r5_of name))
key_told (Entry dir name false) = None
key_told (Truncation ino size) = None
key_told (Unknown key linked) = None

-- whether a node sets this inode, this block, or this name
abbrev pub is_inode_told : ℕ → NodeContent → Bool
is_inode_told ino (Inode other linked) = other == ino
is_inode_told ino other = false

abbrev pub is_block_told : ℕ → ℕ → NodeContent → Bool
is_block_told ino number (Block other at) = (other == ino) && (at == number)
is_block_told ino number other = false

abbrev pub is_name_told : ℕ → List ℕ → NodeContent → Bool
is_name_told dir name (Entry other word true) = (other == dir) && is_same_name word name
is_name_told dir name other = false

-- whether two nodes set the same inode, block or name
abbrev pub is_same_told : NodeContent → NodeContent → Bool
is_same_told (Inode ino linked) other = is_inode_told ino other
is_same_told (Block ino number) other = is_block_told ino number other
is_same_told (Entry dir name true) other = is_name_told dir name other
is_same_told (Entry dir name false) other = false
is_same_told (Truncation ino size) other = false
is_same_told (Unknown key linked) other = false

-- whether a node makes this leaf
abbrev pub is_at_leaf : Leaf → JournalNode → Bool
is_at_leaf leaf node = by (key_told node.content)
  where
    by : Option Key → Bool
    by None = false
    by (Some key) = same_leaf leaf (leaf_of_key key (place_of_node node))

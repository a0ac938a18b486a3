-- What a node says of leaves, by what is told of it: its own key, and which leaves it shows again or makes obsolete.
use Rattle.std.specs.Prelude.{ℕ, ◌*◌, ◌==◌, ◌&&◌, nat_le, not, Bool, true, false, List}
use Rattle.std.specs.List.{list_any}
use Rattle.ubifs_base.specs.Key.{key_words}
use Rattle.ubifs_base.specs.R5.{r5_of}
use Rattle.ubifs_base.specs.declared.key.Key.{Key}
use Rattle.ubifs_base.specs.declared.key.Key.TheVariants.{Ino, Block as BlockKey, Dent}
use Rattle.index_tree.specs.Order.{key_rank}
use Rattle.index_tree.specs.declared.leaf.Leaf.{Leaf}
use Rattle.fs_model.specs.Path.{is_same_name}
use Rattle.journal_scan.specs.declared.node_content.NodeContent.{NodeContent}
use Rattle.journal_scan.specs.declared.node_content.NodeContent.TheVariants.{Inode, Block, Entry, Truncation, Unknown}
use Rattle.journal_scan.specs.declared.journal_node.JournalNode.{JournalNode}
use Rattle.log_replay.specs.Things.{is_block_told, is_inode_told, is_name_told}
use Rattle.leaf_recovery.specs.declared.recovered_leaf.RecoveredLeaf.{RecoveredLeaf}

-- the key of a node; a truncation has that of its inode
abbrev pub node_key_told : NodeContent → Key
node_key_told (Inode ino linked) = Ino ino
node_key_told (Block ino number) = BlockKey ino number
node_key_told (Entry dir name linked) = Dent dir (r5_of name)
node_key_told (Truncation ino size) = Ino ino
node_key_told (Unknown key linked) = key

-- the place in the order of the key of what a node shows, if that isn't what is behind a size
abbrev pub rank_of_shown : NodeContent → ℕ
rank_of_shown (Truncation ino size) = 0
rank_of_shown content = key_rank (node_key_told content)

-- the leaf that a node becomes where it stands
abbrev pub leaf_told : JournalNode → Leaf
leaf_told node = record { key = node_key_told node.content; lnum = node.lnum; offs = node.offs; len = node.len }

-- whether a node shows an inode, a block or a name
abbrev pub shows_thing : NodeContent → Bool
shows_thing (Inode ino linked) = true
shows_thing (Block ino number) = true
shows_thing (Entry dir name true) = true
shows_thing (Entry dir name false) = false
shows_thing (Truncation ino size) = false
shows_thing (Unknown key linked) = false

-- whether this is a block behind a size
abbrev pub is_cut_told : ℕ → ℕ → NodeContent → Bool
is_cut_told ino size (Block other at) = (other == ino) && nat_le size (4096 * at)
is_cut_told ino size other = false

-- whether this is an inode or a block of it
abbrev pub is_part_told : ℕ → NodeContent → Bool
is_part_told ino (Inode other linked) = other == ino
is_part_told ino (Block other at) = other == ino
is_part_told ino other = false

-- whether what a node shows is shown by another one too
abbrev pub shows_told : NodeContent → NodeContent → Bool
shows_told (Inode ino linked) other = is_inode_told ino other
shows_told (Block ino number) other = is_block_told ino number other
shows_told (Entry dir name linked) other = is_name_told dir name other
shows_told (Truncation ino size) other = is_cut_told ino size other
shows_told (Unknown key linked) other = false

-- whether a node of the journal makes another one's leaf obsolete
abbrev pub ends_told : NodeContent → NodeContent → Bool
ends_told (Inode ino true) other = is_inode_told ino other
ends_told (Inode ino false) other = is_part_told ino other
ends_told (Block ino number) other = is_block_told ino number other
ends_told (Entry dir name linked) other = is_name_told dir name other
ends_told (Truncation ino size) other = is_cut_told ino size other
ends_told (Unknown key true) other = false
ends_told (Unknown key false) other = is_part_told (key_words key).0 other

-- whether a node of the journal becomes a leaf
abbrev pub becomes_leaf : NodeContent → Bool
becomes_leaf (Inode ino linked) = linked
becomes_leaf (Block ino number) = true
becomes_leaf (Entry dir name linked) = linked
becomes_leaf (Truncation ino size) = false
becomes_leaf (Unknown key linked) = false

-- whether leaves have an inode
abbrev pub has_inode_told : List RecoveredLeaf → ℕ → Bool
has_inode_told kept ino = list_any (λ x. is_inode_told ino x.content) kept

-- whether a node of the journal does nothing: a block of no inode
abbrev pub is_idle_told : List RecoveredLeaf → NodeContent → Bool
is_idle_told kept (Block ino number) = not (has_inode_told kept ino)
is_idle_told kept content = false

-- whether this is an inode without links
abbrev pub is_unlinked_told : ℕ → NodeContent → Bool
is_unlinked_told ino (Inode other linked) = (other == ino) && not linked
is_unlinked_told ino other = false

-- whether this is an entry of a directory and name
abbrev pub is_entry_told : ℕ → List ℕ → NodeContent → Bool
is_entry_told dir name (Entry at word linked) = (dir == at) && is_same_name name word
is_entry_told dir name other = false

-- whether both are entries of one directory and name
abbrev pub same_name_told : NodeContent → NodeContent → Bool
same_name_told (Entry dir name linked) other = is_entry_told dir name other
same_name_told content other = false

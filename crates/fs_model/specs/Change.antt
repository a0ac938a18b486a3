-- Changes of a tree, one for each leaf node that the journal gets, and groups of them in order (Hunter 2008, "The journal"; the replay of Linux fs/ubifs).
use Rattle.std.specs.Prelude.{ℕ, ◌*◌, ◌==◌, ◌&&◌, nat_le, not, is_some, if◌then◌else◌, max, List, fold, filter}
use Rattle.std.specs.Ordering.{nat_cmp}
use Rattle.std.specs.BTreeMap.{insert_entry, is_at}
use Rattle.std.specs.Map.{remove_entry}
use Rattle.fs_model.specs.declared.change.Change.{Change}
use Rattle.fs_model.specs.declared.change.Change.TheVariants.{SetInode, SetEntry, DropEntry, SetBlock, CutBlocks, DropInode}
use Rattle.fs_model.specs.Files.{Tree, Blocks, inode_at, name_cmp, with_block}

-- the blocks of the other inodes
abbrev pub without_blocks : Blocks → ℕ → Blocks
without_blocks blocks ino = filter (λ b. not (b.0.0 == ino)) blocks

-- the blocks without those of an inode that begin at this size or past it
abbrev pub cut_blocks : Blocks → ℕ → ℕ → Blocks
cut_blocks blocks ino size = filter (λ b. not ((b.0.0 == ino) && nat_le size (4096 * b.0.1))) blocks

-- an inode goes, and its blocks
abbrev pub without_inode : Tree → ℕ → Tree
without_inode tree ino = record tree { inodes = remove_entry (is_at (nat_cmp ino)) tree.inodes; blocks = without_blocks tree.blocks ino }

-- what a change sets or takes away; a block of no inode is nothing
abbrev pub changed : Tree → Change → Tree
changed tree (SetInode ino inode) = record tree { inodes = insert_entry nat_cmp tree.inodes ino inode }
changed tree (SetEntry entry) = record tree { entries = insert_entry name_cmp tree.entries (entry.dir, entry.name) entry }
changed tree (DropEntry dir name) = record tree { entries = remove_entry (is_at (name_cmp (dir, name))) tree.entries }
changed tree (SetBlock ino block bytes) = if is_some (inode_at tree ino) then record tree { blocks = with_block tree.blocks ino block bytes } else tree
changed tree (CutBlocks ino old_size new_size) = record tree { blocks = cut_blocks tree.blocks ino new_size }
changed tree (DropInode ino) = without_inode tree ino

-- the inode number in the key of a change's node, an entry's being that of its directory (`struct ubifs_key` of ubifs-media.h)
abbrev pub key_number : Change → ℕ
key_number (SetInode ino inode) = ino
key_number (SetEntry entry) = entry.dir
key_number (DropEntry dir name) = dir
key_number (SetBlock ino block bytes) = ino
key_number (CutBlocks ino old_size new_size) = ino
key_number (DropInode ino) = ino

-- The tree after a change. The highest inode number is never below one that a key has.
abbrev pub applied : Tree → Change → Tree
applied tree change = record (changed tree change) { highest = max tree.highest (key_number change) }

-- the tree after a group, whose changes are made in order
abbrev pub apply : Tree → List Change → Tree
apply tree group = fold applied tree group

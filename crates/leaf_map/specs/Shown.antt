-- The tree that leaves show.
use Rattle.std.specs.Prelude.{ℕ, List, [], ◌∷◌, Option, Some}
use Rattle.std.specs.BTreeMap.{insert_entry}
use Rattle.fs_model.specs.declared.change.Change.{Change}
use Rattle.fs_model.specs.declared.change.Change.TheVariants.{SetInode, SetEntry, SetBlock}
use Rattle.fs_model.specs.Files.{Tree, Inodes, Blocks, Entries, name_cmp}
use Rattle.leaf_map.specs.Kept.{Kept, shown_by}

-- an inode before others, where one is shown
abbrev pub with_shown_inode : Option Change → Inodes → Inodes
with_shown_inode (Some (SetInode ino inode)) inodes = (ino, inode) ∷ inodes
with_shown_inode shown inodes = inodes

-- a block before others, where one is shown
abbrev pub with_shown_block : Option Change → Blocks → Blocks
with_shown_block (Some (SetBlock ino number bytes)) blocks = ((ino, number), bytes) ∷ blocks
with_shown_block shown blocks = blocks

-- a name among others, where one is shown
abbrev pub with_entry : Option Change → Entries → Entries
with_entry (Some (SetEntry e)) entries = insert_entry name_cmp entries (e.dir, e.name) e
with_entry shown entries = entries

-- the inodes of leaves, in the order of the leaves
abbrev pub inodes_of : List Kept → Inodes
inodes_of [] = []
inodes_of (x ∷ kept) = with_shown_inode (shown_by x) (inodes_of kept)

-- their blocks, in the order of the leaves
abbrev pub blocks_shown_by : List Kept → Blocks
blocks_shown_by [] = []
blocks_shown_by (x ∷ kept) = with_shown_block (shown_by x) (blocks_shown_by kept)

-- their names, sorted
abbrev pub entries_of : List Kept → Entries
entries_of [] = []
entries_of (x ∷ kept) = with_entry (shown_by x) (entries_of kept)

-- the tree that leaves show, where this is the highest number that was ever used
abbrev pub tree_of : List Kept → ℕ → Tree
tree_of kept highest = record { inodes = inodes_of kept; blocks = blocks_shown_by kept; entries = entries_of kept; highest = highest }

-- The tree that cells show, and what changes need of them.
use Rattle.std.specs.Prelude.{◌≡◌, ℕ, ◌+◌, ◌≤◌, ◌==◌, true, List, map, filter, length, ⊤}
use Rattle.std.specs.declared.option.Option.{Option}
use Rattle.std.specs.Ordering.{nat_cmp}
use Rattle.std.specs.Map.{values_of}
use Rattle.fs_model.specs.declared.change.Change.{Change}
use Rattle.fs_model.specs.declared.change.Change.TheVariants.{SetInode, SetEntry, DropEntry, SetBlock, CutBlocks, DropInode}
use Rattle.fs_model.specs.declared.inode.Entry.{Entry}
use Rattle.plain_backing.specs.declared.tree_cells.Named.{Named}
use Rattle.plain_backing.specs.declared.tree_cells.TreeCells.{TreeCells}
use Rattle.plain_backing.specs.Cells.{seen_cells, has_cell, KeepsCells}
use Rattle.fs_model.specs.Cover.{inode_bytes, block_bytes, entry_bytes, tree_bytes}
use Rattle.fs_model.specs.Files.{Tree, Entries, pair_cmp, name_cmp}
use Rattle.fs_model.specs.Orphan.{nameless}

-- the entry of a name, from the inode that it names
abbrev pub entry_of : ℕ × List ℕ → Named → Entry
entry_of key named = record { dir = key.0; name = key.1; ino = named.ino; kind = named.kind }

-- the entries of a directory's names
abbrev pub entries_of_names : List ((ℕ × List ℕ) × Named) → Entries
entries_of_names names = map (λ e. (e.0, entry_of e.0 e.1)) names

-- the entries of a directory that cells show, in order of name
abbrev pub in_directory : ℕ → List ((ℕ × List ℕ) × Option Named) → List Entry
in_directory dir cells = filter (λ e. e.dir == dir) (values_of (entries_of_names (seen_cells cells)))

-- the tree that the cells show
abbrev pub tree_of_cells : TreeCells → Tree
tree_of_cells c = record { inodes = seen_cells c.inodes.entries; blocks = seen_cells c.blocks.entries; entries = entries_of_names (seen_cells c.entries.entries); highest = c.highest }

-- the numbers that are kept are those of the tree
abbrev pub AreCellsCounted : TreeCells → Type 0
AreCellsCounted c = (c.bytes ≡ tree_bytes (tree_of_cells c)) × (c.orphans ≡ length (nameless (tree_of_cells c)))

-- what a change sets has its cell
abbrev pub HasCellRoom : TreeCells → Change → Type 0
HasCellRoom c (SetInode ino inode) = has_cell nat_cmp c.inodes.entries ino ≡ true
HasCellRoom c (SetEntry entry) = has_cell name_cmp c.entries.entries (entry.dir, entry.name) ≡ true
HasCellRoom c (DropEntry dir name) = ⊤
HasCellRoom c (SetBlock ino block bytes) = has_cell pair_cmp c.blocks.entries (ino, block) ≡ true
HasCellRoom c (CutBlocks ino old_size new_size) = ⊤
HasCellRoom c (DropInode ino) = ⊤

-- the bytes of the node that a change sets
abbrev pub set_bytes : Change → ℕ
set_bytes (SetInode ino inode) = inode_bytes inode
set_bytes (SetEntry entry) = entry_bytes entry
set_bytes (DropEntry dir name) = 0
set_bytes (SetBlock ino block bytes) = block_bytes bytes
set_bytes (CutBlocks ino old_size new_size) = 0
set_bytes (DropInode ino) = 0

-- each key that had a cell has one still
pub record KeepsRoom (old new : TreeCells) : Type 0 where
  pub inodes : KeepsCells nat_cmp old.inodes.entries new.inodes.entries
  pub blocks : KeepsCells pair_cmp old.blocks.entries new.blocks.entries
  pub entries : KeepsCells name_cmp old.entries.entries new.entries.entries

-- the cells show a tree after a step, and its bytes are counted; a step of this many bytes adds no more
pub record Makes (old new : TreeCells) (made : Tree) (added : ℕ) : Type 0 where
  pub tree : tree_of_cells new ≡ made
  pub counted : AreCellsCounted new
  pub bytes : new.bytes ≤ old.bytes + added
  pub room : KeepsRoom old new

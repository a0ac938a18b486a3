-- What each change means to who looks: the look-ups that it sets, and those that it leaves.
use Rattle.std.specs.Prelude.{◌≡◌, ◌≢◌, ℕ, ◌*◌, ◌<◌, ◌≤◌, IsTrue, is_some, Some, None, List, []}
use Rattle.fs_model.specs.declared.change.Change.TheVariants.{SetInode, SetEntry, DropEntry, SetBlock, CutBlocks, DropInode}
use Rattle.fs_model.specs.declared.inode.Inode.{Inode}
use Rattle.fs_model.specs.declared.inode.Entry.{Entry}
use Rattle.fs_model.specs.Change.{changed}
use Rattle.fs_model.specs.Files.{Tree, inode_at, entry_at, block_at}

-- an inode is set
pub record SetsInode (tree : Tree) (ino : ℕ) (inode : Inode) : Type 0 where
  pub here : inode_at (changed tree (SetInode ino inode)) ino ≡ Some inode
  pub others : (other : ℕ) → other ≢ ino → inode_at (changed tree (SetInode ino inode)) other ≡ inode_at tree other

-- an entry is set
pub record SetsEntry (tree : Tree) (entry : Entry) : Type 0 where
  pub here : entry_at (changed tree (SetEntry entry)) entry.dir entry.name ≡ Some entry
  pub others : (dir : ℕ) (name : List ℕ) → (dir ≡ entry.dir → name ≡ entry.name → ⊥) → entry_at (changed tree (SetEntry entry)) dir name ≡ entry_at tree dir name

-- a name goes, and no other one
abbrev pub LeavesEntries : Tree → ℕ → List ℕ → Type 0
LeavesEntries tree from gone = (dir : ℕ) (name : List ℕ) → (dir ≡ from → name ≡ gone → ⊥) → entry_at (changed tree (DropEntry from gone)) dir name ≡ entry_at tree dir name

-- a block is set, of an inode that is there; a block of no inode is nothing
pub record SetsBlock (tree : Tree) (ino block : ℕ) (bytes : List ℕ) : Type 0 where
  pub here : IsTrue (is_some (inode_at tree ino)) → block_at (changed tree (SetBlock ino block bytes)).blocks ino block ≡ bytes
  pub others : (other number : ℕ) → (other ≡ ino → number ≡ block → ⊥) → block_at (changed tree (SetBlock ino block bytes)).blocks other number ≡ block_at tree.blocks other number
  pub missing : inode_at tree ino ≡ None → changed tree (SetBlock ino block bytes) ≡ tree

-- the blocks past a size are cut off
pub record CutsBlocks (tree : Tree) (ino old_size new_size : ℕ) : Type 0 where
  pub gone : (block : ℕ) → new_size ≤ 4096 * block → block_at (changed tree (CutBlocks ino old_size new_size)).blocks ino block ≡ []
  pub kept : (block : ℕ) → 4096 * block < new_size → block_at (changed tree (CutBlocks ino old_size new_size)).blocks ino block ≡ block_at tree.blocks ino block
  pub others : (other block : ℕ) → other ≢ ino → block_at (changed tree (CutBlocks ino old_size new_size)).blocks other block ≡ block_at tree.blocks other block

-- an inode goes with its blocks
pub record DropsInode (tree : Tree) (ino : ℕ) : Type 0 where
  pub blocks : (block : ℕ) → block_at (changed tree (DropInode ino)).blocks ino block ≡ []
  pub other_blocks : (other block : ℕ) → other ≢ ino → block_at (changed tree (DropInode ino)).blocks other block ≡ block_at tree.blocks other block
  pub other_inodes : (other : ℕ) → other ≢ ino → inode_at (changed tree (DropInode ino)) other ≡ inode_at tree other

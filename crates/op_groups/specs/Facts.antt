-- What was looked up of a tree before a group is made.
use Rattle.std.specs.Prelude.{◌≡◌, ◌≢◌, ℕ, Option, IfSome, [], List, IsTrue, ◌≤◌, sum_by, length, min}
use Rattle.std.specs.List.{AllByRecursion, list_all}
use Rattle.fs_model.specs.declared.change.Change.{Change}
use Rattle.fs_model.specs.declared.change.Change.TheVariants.{DropInode}
use Rattle.fs_model.specs.declared.inode.Inode.{Inode}
use Rattle.fs_model.specs.declared.inode.Entry.{Entry}
use Rattle.fs_model.specs.Backing.{group_limit, is_node}
use Rattle.fs_model.specs.Files.{Tree, Blocks, inode_at, block_at, last_block_of}
use Rattle.fs_model.specs.Need.{change_bytes}
use Rattle.op_groups.specs.declared.parent.Parent.{Parent}

-- a directory's inode was looked up
abbrev pub IsParent : Tree → Parent → Type 0
IsParent tree parent = inode_at tree parent.ino ≡ parent.inode

-- the inodes of both directories of a move were looked up; where they are one, the second is not asked for
pub record AreParents (tree : Tree) (from : Entry) (old : Option Inode) (to : Parent) : Type 0 where
  pub old_is : inode_at tree from.dir ≡ old
  pub new_is : from.dir ≢ to.ino → IsParent tree to

-- the last block of an inode was looked up, and a read of it found so many bytes
pub record IsLastBlock (blocks : Blocks) (ino : ℕ) (last : Option ℕ) (stored : ℕ) : Type 0 where
  pub last_is : last_block_of blocks ino ≡ last
  pub stored_is : IfSome last (λ block. stored ≡ min (length (block_at blocks ino block)) 4096)

-- a tree in which nothing is
abbrev pub empty_tree : Tree
empty_tree = record { inodes = []; blocks = []; entries = []; highest = 0 }

-- the bytes that a change's node takes at most, where that of an inode that goes takes so many; no other change asks the tree
abbrev pub bytes_asked : ℕ → Change → ℕ
bytes_asked gone (DropInode ino) = gone
bytes_asked gone change = change_bytes empty_tree change

-- so many bytes are what an inode that goes takes
abbrev pub IsGone : Tree → ℕ → List Change → Type 0
IsGone tree gone group = AllByRecursion (λ change. change_bytes tree change ≡ bytes_asked gone change) group

-- where a group's changes are nodes, they take no more bytes than a group may
abbrev pub FitsLimit : Tree → List Change → Type 0
FitsLimit tree group = IsTrue (list_all is_node group) → sum_by (change_bytes tree) group ≤ group_limit

-- What is kept follows the changes that a backing made of its tree.
use Rattle.std.specs.Prelude.{◌≡◌, ◌⊎◌, ◌<◌, Bool, true, false, Some, List, fold}
use Rattle.std.specs.List.{AllByRecursion}
use Rattle.std.specs.BTreeMap.{is_at}
use Rattle.std.specs.Map.{set_value, remove_entry}
use Rattle.std.specs.Ordering.{nat_cmp}
use Rattle.fs_model.specs.declared.change.Change.{Change}
use Rattle.fs_model.specs.declared.change.Change.TheVariants.{SetInode, SetBlock, CutBlocks, DropInode}
use Rattle.fs_model.specs.declared.inode.Inode.{Inode}
use Rattle.fs_model.specs.Files.{Tree, inode_at}
use Rattle.fs_model.specs.Path.{is_dir}
use Rattle.page_cache.specs.Pages.{without_cut}
use Rattle.buffered_files.specs.declared.kept.Kept.{Kept}

-- whether an inode is set or goes
abbrev pub is_of_inode : Change → Bool
is_of_inode (SetInode ino inode) = true
is_of_inode (DropInode ino) = true
is_of_inode change = false

-- an inode that is kept is set, and one that goes is let go with its pages
abbrev pub follow : Kept → Change → Kept
follow kept (SetInode ino inode) = record kept { inodes = set_value (is_at (nat_cmp ino)) kept.inodes inode }
follow kept (DropInode ino) = record kept { inodes = remove_entry (is_at (nat_cmp ino)) kept.inodes; pages = without_cut kept.pages ino 0 }
follow kept change = kept

-- what is kept after a group
abbrev pub followed : Kept → List Change → Kept
followed kept group = fold follow kept group

-- an inode of the same kind and, unless it is a directory, of the same size
pub record KeepsSize (old new : Inode) : Type 0 where
  pub kind : new.kind ≡ old.kind
  pub size : is_dir old.kind ≡ false → new.size ≡ old.size

-- A change of inodes or names over a tree. An inode that is there keeps its kind and, unless it is a directory, its size. A new one has a number above all that were used. No block changes, but for those of an inode that goes.
abbrev pub IsOfNames : Tree → Change → Type 0
IsOfNames tree (SetInode ino inode) = ((old : Inode) × (inode_at tree ino ≡ Some old) × KeepsSize old inode) ⊎ (tree.highest < ino)
IsOfNames tree (SetBlock ino block bytes) = ⊥
IsOfNames tree (CutBlocks ino old_size new_size) = ⊥
IsOfNames tree change = Unit {0}

-- a group of such changes
abbrev pub AreOfNames : Tree → List Change → Type 0
AreOfNames tree group = AllByRecursion (IsOfNames tree) group

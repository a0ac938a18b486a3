-- Operations whose changes are one group of inodes and names, and what such a group asks for.
use Rattle.std.specs.Prelude.{◌≡◌, ℕ, Bool, true, false, ◌==◌, ◌&&◌, not, Option, Some, None, List, [], ◌∷◌}
use Rattle.std.specs.List.{list_any}
use Rattle.fs_model.specs.declared.change.Change.{Change}
use Rattle.fs_model.specs.declared.change.Change.TheVariants.{SetInode, DropInode}
use Rattle.std.specs.Option.{option_map_or}
use Rattle.fs_model.specs.Cover.{inode_bytes}
use Rattle.fs_model.specs.Files.{Files, Tree, inode_at}
use Rattle.fs_model.specs.Need.{need_of}
use Rattle.fs_model.specs.Path.{is_dir}
use Rattle.fs_model.specs.declared.op.Op.{Op}
use Rattle.fs_model.specs.declared.op.Op.TheVariants.{Create, Mkdir, Symlink, Link, Unlink, Rmdir, Rename, Truncate, Chmod}
use Rattle.fs_model.specs.declared.space.Class.{Class}
use Rattle.fs_model.specs.declared.space.Class.TheVariants.{Ordinary, Removal}

-- whether its changes are one group of inodes and names
abbrev pub is_of_names : Op → Bool
is_of_names (Create path mode) = true
is_of_names (Mkdir path mode) = true
is_of_names (Symlink path target) = true
is_of_names (Link old new) = true
is_of_names (Unlink path) = true
is_of_names (Rmdir path) = true
is_of_names (Rename old new) = true
is_of_names (Chmod path mode) = true
is_of_names op = false

-- whether it puts one group: of inodes and names, or that of a new size
abbrev pub has_group : Op → Bool
has_group (Truncate slot size) = true
has_group op = is_of_names op

-- the nodes that its group asks for: as many as it has, but three of a smaller size, whichever of them are put
abbrev pub nodes_asked : Files → ℕ → ℕ → Op → ℕ
nodes_asked files caller now op = (need_of files caller now op).nodes

-- the class of who asks: what takes a name away may use the last room
abbrev pub class_of : Op → Class
class_of (Unlink path) = Removal
class_of (Rmdir path) = Removal
class_of op = Ordinary

-- the first inode that goes with a group
abbrev pub gone_in : List Change → Option ℕ
gone_in [] = None
gone_in (DropInode ino ∷ group) = Some ino
gone_in (change ∷ group) = gone_in group

-- no inode goes but this one
abbrev pub LeavesOthers : ℕ → Change → Type 0
LeavesOthers ino (DropInode other) = other ≡ ino
LeavesOthers ino change = Unit {0}

-- the bytes of the node of an inode that goes with a group; those of one without data where none goes
abbrev pub gone_bytes : Tree → List Change → ℕ
gone_bytes tree group = option_map_or (λ ino. option_map_or inode_bytes (inode_at tree ino) 160) (gone_in group) 160

-- whether an inode is set that has no name, and is no directory
abbrev pub is_orphaned : Change → Bool
is_orphaned (SetInode ino inode) = not (is_dir inode.kind) && (inode.nlink == 0)
is_orphaned change = false

-- whether a group leaves an orphan
abbrev pub orphans : List Change → Bool
orphans group = list_any is_orphaned group

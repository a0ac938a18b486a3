-- Inodes that have lost their last name while they are open: unlink(2), and the orphans of Hunter 2008.
use Rattle.std.specs.Prelude.{ℕ, Bool, true, false, ◌==◌, ◌&&◌, ◌||◌, not, nat_lt, if◌then◌else◌, Ok, Err, List, [], ◌∷◌, filter, fold, length}
use Rattle.std.specs.List.{list_any}
use Rattle.std.specs.Map.{keys_of}
use Rattle.std.specs.Option.{option_map_or}
use Rattle.fs_model.specs.declared.change.Change.{Change}
use Rattle.fs_model.specs.declared.change.Change.TheVariants.{DropInode, SetInode}
use Rattle.fs_model.specs.declared.refusal.Refusal.TheVariants.{Enfile}
use Rattle.fs_model.specs.declared.refusal.Table.TheVariants.{Orphans}
use Rattle.fs_model.specs.Change.{applied, without_inode}
use Rattle.fs_model.specs.Files.{Tree, Files, inode_at}
use Rattle.fs_model.specs.Outcome.{Outcome, refuse}

-- whether somebody has an inode open
abbrev pub is_open : Files → ℕ → Bool
is_open files ino = list_any (λ handle. handle.1 == ino) files.handles

-- whether an inode is there and has no name
abbrev pub is_nameless : Tree → ℕ → Bool
is_nameless tree ino = option_map_or (λ inode. inode.nlink == 0) (inode_at tree ino) false

-- the inodes that have no name
abbrev pub nameless : Tree → List ℕ
nameless tree = keys_of (filter (λ entry. entry.1.nlink == 0) tree.inodes)

-- the tree without them and their blocks
abbrev pub without_nameless : Tree → Tree
without_nameless tree = fold without_inode tree (nameless tree)

-- Whether a change brings back no inode: one that it sets is new, above the highest number, or it is there, and gets no links where it has lost its last name.
abbrev pub revives_none : Tree → Change → Bool
revives_none tree (SetInode ino inode) = option_map_or (λ old. (inode.nlink == 0) || not (old.nlink == 0)) (inode_at tree ino) (nat_lt tree.highest ino)
revives_none tree change = true

-- whether no change of a group does, each made on what those before it leave
abbrev pub all_revive_none : Tree → List Change → Bool
all_revive_none tree [] = true
all_revive_none tree (change ∷ group) = revives_none tree change && all_revive_none (applied tree change) group

-- Whether a change drops no inode without a name: such an inode goes when it is closed, by a call of its own.
abbrev pub drops_named : Tree → Change → Bool
drops_named tree (DropInode ino) = not (is_nameless tree ino)
drops_named tree change = true

-- whether no change of a group does, each made on what those before it leave
abbrev pub all_drop_named : Tree → List Change → Bool
all_drop_named tree [] = true
all_drop_named tree (change ∷ group) = drops_named tree change && all_drop_named (applied tree change) group

-- an inode that has neither a name nor a handle is gone
abbrev pub without_lost : Files → ℕ → Files
without_lost files ino = if is_nameless files.tree ino && not (is_open files ino) then record files { tree = without_inode files.tree ino } else files

-- whether an open inode lost its last name
abbrev pub leaves_orphan : Files → Files → Bool
leaves_orphan before after = nat_lt (length (nameless before.tree)) (length (nameless after.tree))

-- An outcome where so many more orphans can be told of, out of this limit. This refusal comes after all others of an operation.
abbrev pub within_orphans : ℕ → ℕ → Files → Outcome → Outcome
within_orphans room limit files (Err refusal) = Err refusal
within_orphans room limit files (Ok found) = refuse ((room == 0) && leaves_orphan files found.1) (Enfile Orphans limit) (Ok found)

-- Parts of plans, which functions of their own look up.
use Rattle.std.specs.Prelude.{ℕ, ◌&&◌, not, is_some, Result, Ok, List}
use Rattle.fs_model.specs.declared.change.Change.{Change}
use Rattle.fs_model.specs.declared.inode.Inode.{Inode}
use Rattle.fs_model.specs.declared.inode.Entry.{Entry}
use Rattle.fs_model.specs.declared.refusal.Refusal.{Refusal}
use Rattle.fs_model.specs.declared.refusal.Refusal.TheVariants.{Eexist, Enotdir, Eisdir, Enotempty, Einval, Emlink}
use Rattle.fs_model.specs.Directory.{has_no_entry, is_linked_out}
use Rattle.fs_model.specs.Files.{Tree, Files, entry_at}
use Rattle.fs_model.specs.Links.{losing}
use Rattle.fs_model.specs.Outcome.{refuse, with_found, with_named}
use Rattle.fs_model.specs.Path.{components, last_of, walked, parent_of, is_dir}
use Rattle.fs_model.specs.Rename.{is_under}

-- the directory in which a path names nothing yet
abbrev pub free_parent : Tree → List ℕ → Result Entry Refusal
free_parent tree path = with_found (parent_of tree path) (λ parent. refuse (is_some (entry_at tree parent.ino (last_of (components path)))) Eexist (Ok parent))

-- what can have a further name
abbrev pub linkable : Tree → List ℕ → Result (Entry × Inode) Refusal
linkable tree path = with_found (walked tree path) (λ entry. refuse (is_dir entry.kind) Eisdir (with_named tree entry.ino (λ inode. refuse (is_linked_out inode.nlink) Emlink (Ok (entry, inode)))))

-- where a name moves from, and the directory to which it moves
abbrev pub ends_of : Tree → List ℕ → List ℕ → Result (Entry × Entry) Refusal
ends_of tree old new = with_found (walked tree old) (λ from. with_found (parent_of tree new) (λ parent. refuse (is_under (components old) (components new)) Einval (Ok (from, parent))))

-- what becomes of the inode that loses its name to another entry
abbrev pub lost_to : Files → ℕ → Entry → Entry → Result Change Refusal
lost_to files now from over =
    refuse (is_dir from.kind && not (is_dir over.kind)) Enotdir
    (refuse (not (is_dir from.kind) && is_dir over.kind) Eisdir
    (refuse (is_dir over.kind && not (has_no_entry files.tree over.ino)) Enotempty
    (with_named files.tree over.ino (λ inode. Ok (losing files over.ino now inode)))))

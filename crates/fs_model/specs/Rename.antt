-- Moving a name: rename(2).
use Rattle.std.specs.Prelude.{ℕ, Bool, true, false, ◌==◌, ◌&&◌, ◌||◌, not, if◌then◌else◌, Option, Some, None, Ok, List, [], ◌∷◌, ◌++◌}
use Rattle.fs_model.specs.declared.change.Change.{Change}
use Rattle.fs_model.specs.declared.change.Change.TheVariants.{SetEntry, DropEntry}
use Rattle.fs_model.specs.declared.inode.Entry.{Entry}
use Rattle.fs_model.specs.declared.refusal.Refusal.TheVariants.{Enotdir, Eisdir, Enotempty, Enametoolong, Einval, Emlink}
use Rattle.fs_model.specs.declared.reply.Reply.TheVariants.{Done}
use Rattle.fs_model.specs.declared.share.Share.{Share}
use Rattle.fs_model.specs.Directory.{dir_links, has_no_entry, is_linked_out, no_share, share_of}
use Rattle.fs_model.specs.Files.{Files, entry_at}
use Rattle.fs_model.specs.Links.{losing}
use Rattle.fs_model.specs.Making.{is_name_path, touching}
use Rattle.fs_model.specs.Outcome.{Plan, refuse, with_found, with_named}
use Rattle.fs_model.specs.Path.{has_long_name, components, last_of, walked, parent_of, is_dir, is_empty, is_same_name}

-- whether the second list of components lies under the first
abbrev pub is_under : List (List ℕ) → List (List ℕ) → Bool
is_under [] [] = false
is_under [] (name ∷ new) = true
is_under (name ∷ old) [] = false
is_under (name ∷ old) (other ∷ new) = is_same_name name other && is_under old new

-- what an entry adds where it moves to; over a name that stood there, nothing
abbrev pub coming : Entry → List Change → Share
coming new lost = if is_empty lost then share_of new else no_share

-- An entry is moved to a name in a directory, and what was lost there goes. Both directories change, or the one if they are one.
abbrev pub moving : Files → Entry → ℕ → List ℕ → List Change → ℕ → List Change
moving files from dir name lost now =
    let new = record from { dir = dir; name = name } in
    SetEntry new ∷ DropEntry from.dir from.name
    ∷ (lost ++ touching files.tree from.dir now (if from.dir == dir then coming new lost else no_share) (share_of from)
    ++ (if from.dir == dir then [] else touching files.tree dir now (coming new lost) no_share))

-- a directory that comes to another one needs a link there
abbrev pub comes_linked_out : Files → Entry → ℕ → Bool
comes_linked_out files from dir = is_dir from.kind && not (from.dir == dir) && is_linked_out (dir_links files.tree dir)

-- moves an entry to a name in a directory, over what stands there; onto another name of the same inode nothing is done
abbrev pub moved : Files → ℕ → Entry → ℕ → List ℕ → Option Entry → Plan
moved files now from dir name None = refuse (comes_linked_out files from dir) Emlink (Ok (Done, moving files from dir name [] now))
moved files now from dir name (Some over) =
    if over.ino == from.ino then Ok (Done, [])
    else refuse (is_dir from.kind && not (is_dir over.kind)) Enotdir
    (refuse (not (is_dir from.kind) && is_dir over.kind) Eisdir
    (refuse (is_dir over.kind && not (has_no_entry files.tree over.ino)) Enotempty
    (with_named files.tree over.ino (λ inode.
    Ok (Done, moving files from dir name (losing files over.ino now inode ∷ []) now)))))

-- gives an entry another name and directory
abbrev pub renamed : Files → ℕ → List ℕ → List ℕ → Plan
renamed files now old new =
    let name = last_of (components new) in
    refuse (not (is_name_path old && is_name_path new)) Einval
    (refuse (has_long_name old || has_long_name new) Enametoolong
    (with_found (walked files.tree old) (λ from.
    with_found (parent_of files.tree new) (λ parent.
    refuse (is_under (components old) (components new)) Einval
    (moved files now from parent.ino name (entry_at files.tree parent.ino name))))))

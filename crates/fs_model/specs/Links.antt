-- Names that an inode gains and loses: link(2), unlink(2) and rmdir(2).
use Rattle.std.specs.Prelude.{ℕ, ◌+◌, ◌-◌, ◌==◌, ◌&&◌, ◌||◌, not, is_some, if◌then◌else◌, Ok, List, ◌∷◌}
use Rattle.fs_model.specs.declared.change.Change.{Change}
use Rattle.fs_model.specs.declared.change.Change.TheVariants.{SetInode, SetEntry, DropEntry, DropInode}
use Rattle.fs_model.specs.declared.inode.Inode.{Inode}
use Rattle.fs_model.specs.declared.inode.Entry.{Entry}
use Rattle.fs_model.specs.declared.refusal.Refusal.TheVariants.{Eexist, Enotdir, Eisdir, Enotempty, Enametoolong, Einval, Emlink}
use Rattle.fs_model.specs.declared.reply.Reply.TheVariants.{Done}
use Rattle.fs_model.specs.Directory.{has_no_entry, is_linked_out, no_share, share_of}
use Rattle.fs_model.specs.Files.{Tree, Files, entry_at}
use Rattle.fs_model.specs.Making.{is_name_path, touched, touching}
use Rattle.fs_model.specs.Orphan.{is_open}
use Rattle.fs_model.specs.Outcome.{Plan, refuse, with_found, with_named}
use Rattle.fs_model.specs.Path.{has_long_name, components, last_of, walked, parent_of, is_dir}

-- an inode has one name more
abbrev pub linking : Tree → Entry → Inode → ℕ → List ℕ → ℕ → List Change
linking tree entry inode dir name now =
    let new = record entry { dir = dir; name = name } in
    SetEntry new ∷ SetInode entry.ino (touched now (record inode { nlink = inode.nlink + 1 })) ∷ touching tree dir now (share_of new) no_share

-- an inode with one link less; a directory has but one name
abbrev pub less_linked : ℕ → Inode → Inode
less_linked now inode = touched now (record inode { nlink = if is_dir inode.kind then 0 else inode.nlink - 1 })

-- An inode loses a name. With the last one it goes, unless somebody has it open: then it stays without a name.
abbrev pub losing : Files → ℕ → ℕ → Inode → Change
losing files ino now inode =
    let left = less_linked now inode in
    if (left.nlink == 0) && not (is_open files ino) then DropInode ino else SetInode ino left

-- a name goes
abbrev pub removing : Files → Entry → Inode → ℕ → List Change
removing files entry inode now = DropEntry entry.dir entry.name ∷ losing files entry.ino now inode ∷ touching files.tree entry.dir now no_share (share_of entry)

-- gives an inode that is no directory a further name
abbrev pub linked : Files → ℕ → List ℕ → List ℕ → Plan
linked files now old new =
    let name = last_of (components new) in
    refuse (not (is_name_path old && is_name_path new)) Einval
    (refuse (has_long_name old || has_long_name new) Enametoolong
    (with_found (walked files.tree old) (λ entry.
    refuse (is_dir entry.kind) Eisdir
    (with_named files.tree entry.ino (λ inode.
    refuse (is_linked_out inode.nlink) Emlink
    (with_found (parent_of files.tree new) (λ parent.
    refuse (is_some (entry_at files.tree parent.ino name)) Eexist
    (Ok (Done, linking files.tree entry inode parent.ino name now)))))))))

-- takes a name away, of anything but a directory
abbrev pub unlinked : Files → ℕ → List ℕ → Plan
unlinked files now path =
    refuse (not (is_name_path path)) Einval
    (refuse (has_long_name path) Enametoolong
    (with_found (walked files.tree path) (λ entry.
    refuse (is_dir entry.kind) Eisdir
    (with_named files.tree entry.ino (λ inode.
    Ok (Done, removing files entry inode now))))))

-- takes an empty directory away
abbrev pub dir_removed : Files → ℕ → List ℕ → Plan
dir_removed files now path =
    refuse (not (is_name_path path)) Einval
    (refuse (has_long_name path) Enametoolong
    (with_found (walked files.tree path) (λ entry.
    refuse (not (is_dir entry.kind)) Enotdir
    (refuse (not (has_no_entry files.tree entry.ino)) Enotempty
    (with_named files.tree entry.ino (λ inode.
    Ok (Done, removing files entry inode now)))))))

-- What is asked of a directory or an inode, and a change of its mode: readdir(3), stat(2), readlink(2) and chmod(2).
use Rattle.std.specs.Prelude.{ℕ, Bool, true, false, not, Result, Ok, List, [], ◌∷◌}
use Rattle.fs_model.specs.declared.change.Change.TheVariants.{SetInode}
use Rattle.fs_model.specs.declared.inode.Inode.{Inode}
use Rattle.fs_model.specs.declared.inode.Entry.{Entry}
use Rattle.fs_model.specs.declared.inode.Kind.{Kind}
use Rattle.fs_model.specs.declared.inode.Kind.TheVariants.{Symlink}
use Rattle.fs_model.specs.declared.refusal.Refusal.{Refusal}
use Rattle.fs_model.specs.declared.refusal.Refusal.TheVariants.{Enotdir, Enametoolong, Einval}
use Rattle.fs_model.specs.declared.reply.Reply.{Reply}
use Rattle.fs_model.specs.declared.reply.Reply.TheVariants.{Done, List as Listed, Stat, Target}
use Rattle.fs_model.specs.Directory.{entries_in, by_hash, links_of, shown_size}
use Rattle.fs_model.specs.Files.{Tree, Files}
use Rattle.fs_model.specs.Making.{is_bad_mode, touched}
use Rattle.fs_model.specs.Outcome.{Outcome, Plan, refuse, with_found, with_named}
use Rattle.fs_model.specs.Path.{is_path, has_long_name, walked, is_dir}

abbrev pub is_symlink : Kind → Bool
is_symlink Symlink = true
is_symlink kind = false

-- the entry that a path operand names
abbrev pub found : Files → List ℕ → Result Entry Refusal
found files path = refuse (not (is_path path)) Einval (refuse (has_long_name path) Enametoolong (walked files.tree path))

-- what stat(2) tells of an inode
abbrev pub stat_of : Tree → ℕ → Inode → Reply
stat_of tree ino inode = Stat inode.kind ino inode.mode (links_of tree ino inode) (shown_size tree ino inode) inode.mtime

-- lists a directory
abbrev pub listed : Files → List ℕ → Outcome
listed files path = with_found (found files path) (λ at. refuse (not (is_dir at.kind)) Enotdir (Ok (Listed (by_hash (entries_in files.tree at.ino)), files)))

-- tells what an inode is
abbrev pub told : Files → List ℕ → Outcome
told files path = with_found (found files path) (λ at. with_named files.tree at.ino (λ inode. Ok (stat_of files.tree at.ino inode, files)))

-- reads a symbolic link
abbrev pub link_read : Files → List ℕ → Outcome
link_read files path = with_found (found files path) (λ at. refuse (not (is_symlink at.kind)) Einval (with_named files.tree at.ino (λ inode. Ok (Target inode.extra, files))))

-- sets the permission bits of an inode
abbrev pub mode_set : Files → ℕ → List ℕ → ℕ → Plan
mode_set files now path mode =
    refuse (is_bad_mode mode) Einval
    (with_found (found files path) (λ at.
    with_named files.tree at.ino (λ inode.
    Ok (Done, SetInode at.ino (touched now (record inode { mode = mode })) ∷ []))))

-- The tree after an operation is what its group makes of it.
use Rattle.std.proofs.Common.{◌≡◌, ℕ, ◌-◌, Bool, true, false, List, Option, Some, None, Ok, Err, refl, not, min, ◌||◌}
use Rattle.std.specs.Prelude.{Result, nat_lt, is_some}
use Rattle.std.specs.BTreeMap.{insert_entry}
use Rattle.fs_model.specs.declared.inode.Inode.{Inode}
use Rattle.fs_model.specs.declared.inode.Entry.{Entry}
use Rattle.fs_model.specs.declared.op.Op.{Op}
use Rattle.fs_model.specs.declared.op.Op.TheVariants.{Create, Mkdir, Symlink, Link, Unlink, Rmdir, Rename, OpenFile, Close, Read, Write, Truncate, Fsync, Flush, List as ListDir, Stat, Readlink, Chmod}
use Rattle.fs_model.specs.declared.refusal.Refusal.{Refusal}
use Rattle.fs_model.specs.declared.refusal.Refusal.TheVariants.{Enoent, Enotdir, Eisdir, Enametoolong, Einval, Ebadf}
use Rattle.fs_model.specs.declared.reply.Reply.TheVariants.{Done, Ino, Bytes, List as Listed, Target}
use Rattle.fs_model.specs.Attributes.{found, stat_of, is_symlink, listed, told, link_read, mode_set}
use Rattle.fs_model.specs.Change.{apply}
use Rattle.fs_model.specs.Directory.{entries_in, by_hash}
use Rattle.fs_model.specs.Effect.{GroupMakes}
use Rattle.fs_model.specs.Files.{Files, inode_at, handle_at, pair_cmp, size_of, bytes_from}
use Rattle.fs_model.specs.Handles.{is_bad_slot, opened, bytes_read, synced}
use Rattle.fs_model.specs.Links.{linked, unlinked, dir_removed}
use Rattle.fs_model.specs.Making.{created, dir_made, symlink_made}
use Rattle.fs_model.specs.Operation.{files_in}
use Rattle.fs_model.specs.Outcome.{Outcome, Plan, refuse, with_found, with_some, done_by, group_in}
use Rattle.fs_model.specs.Path.{is_path, has_long_name, walked, is_dir, is_file}
use Rattle.fs_model.specs.Rename.{renamed}
use Rattle.fs_model.specs.Truncation.{truncated}

-- the tree stays
abbrev Keeps : Files → Outcome → Type 0
Keeps files o = (files_in files o).tree ≡ files.tree

refuse_keeps : (files : Files) (b : Bool) (refusal : Refusal) (next : Outcome) → Keeps files next → Keeps files (refuse b refusal next)
refuse_keeps files true refusal next h = refl
refuse_keeps files false refusal next h = h

found_keeps : {A : Type 0} (files : Files) (x : Result A Refusal) (next : A → Outcome) → ((a : A) → Keeps files (next a)) → Keeps files (with_found x next)
found_keeps files (Err refusal) next h = refl
found_keeps files (Ok a) next h = h a

some_keeps : {A : Type 0} (files : Files) (o : Option A) (refusal : Refusal) (next : A → Outcome) → ((a : A) → Keeps files (next a)) → Keeps files (with_some o refusal next)
some_keeps files None refusal next h = refl
some_keeps files (Some a) refusal next h = h a

opened_keeps : (files : Files) (caller : ℕ) (path : List ℕ) (slot : ℕ) → Keeps files (opened files caller path slot)
opened_keeps files caller path slot =
    let last : Entry → Outcome = λ entry. Ok (Ino entry.ino, record files { handles = insert_entry pair_cmp files.handles (caller, slot) entry.ino }) in
    let regular : Entry → Outcome = λ entry. refuse (not (is_file entry.kind)) Einval (last entry) in
    let named : Entry → Outcome = λ entry. refuse (is_dir entry.kind) Eisdir (regular entry) in
    let walk : Outcome = with_found (walked files.tree path) named in
    let free : Outcome = refuse (is_some (handle_at files caller slot)) Ebadf walk in
    refuse_keeps files (is_bad_slot slot || not (is_path path)) Einval (refuse (has_long_name path) Enametoolong free)
    (refuse_keeps files (has_long_name path) Enametoolong free
    (refuse_keeps files (is_some (handle_at files caller slot)) Ebadf walk
    (found_keeps files (walked files.tree path) named (λ entry.
    refuse_keeps files (is_dir entry.kind) Eisdir (regular entry)
    (refuse_keeps files (not (is_file entry.kind)) Einval (last entry) refl)))))

read_keeps : (files : Files) (caller slot offs len : ℕ) → Keeps files (bytes_read files caller slot offs len)
read_keeps files caller slot offs len =
    let last : ℕ → Inode → Outcome = λ ino inode. Ok (Bytes (bytes_from files.tree.blocks ino offs (min len (size_of files.tree ino inode - offs))), files) in
    let named : ℕ → Outcome = λ ino. with_some (inode_at files.tree ino) Ebadf (last ino) in
    refuse_keeps files (is_bad_slot slot || nat_lt 65536 len) Einval (with_some (handle_at files caller slot) Ebadf named)
    (some_keeps files (handle_at files caller slot) Ebadf named (λ ino. some_keeps files (inode_at files.tree ino) Ebadf (last ino) (λ inode. refl)))

synced_keeps : (files : Files) (caller slot : ℕ) → Keeps files (synced files caller slot)
synced_keeps files caller slot =
    let last : ℕ → Outcome = λ ino. Ok (Done, files) in
    refuse_keeps files (is_bad_slot slot) Einval (with_some (handle_at files caller slot) Ebadf last) (some_keeps files (handle_at files caller slot) Ebadf last (λ ino. refl))

listed_keeps : (files : Files) (path : List ℕ) → Keeps files (listed files path)
listed_keeps files path =
    let last : Entry → Outcome = λ at. Ok (Listed (by_hash (entries_in files.tree at.ino)), files) in
    let named : Entry → Outcome = λ at. refuse (not (is_dir at.kind)) Enotdir (last at) in
    found_keeps files (found files path) named (λ at. refuse_keeps files (not (is_dir at.kind)) Enotdir (last at) refl)

told_keeps : (files : Files) (path : List ℕ) → Keeps files (told files path)
told_keeps files path =
    let last : Entry → Inode → Outcome = λ at inode. Ok (stat_of files.tree at.ino inode, files) in
    let named : Entry → Outcome = λ at. with_some (inode_at files.tree at.ino) Enoent (last at) in
    found_keeps files (found files path) named (λ at. some_keeps files (inode_at files.tree at.ino) Enoent (last at) (λ inode. refl))

link_keeps : (files : Files) (path : List ℕ) → Keeps files (link_read files path)
link_keeps files path =
    let last : Inode → Outcome = λ inode. Ok (Target inode.extra, files) in
    let read : Entry → Outcome = λ at. with_some (inode_at files.tree at.ino) Enoent last in
    let named : Entry → Outcome = λ at. refuse (not (is_symlink at.kind)) Einval (read at) in
    found_keeps files (found files path) named (λ at. refuse_keeps files (not (is_symlink at.kind)) Einval (read at) (some_keeps files (inode_at files.tree at.ino) Enoent last (λ inode. refl)))

plan_makes : (files : Files) (plan : Plan) → (files_in files (done_by files plan)).tree ≡ apply files.tree (group_in plan)
plan_makes files (Err refusal) = refl
plan_makes files (Ok done) = refl

pub group_makes : (files : Files) (caller now : ℕ) (op : Op) → GroupMakes files caller now op
group_makes files caller now (Create path mode) = λ g. plan_makes files (created files now path mode)
group_makes files caller now (Mkdir path mode) = λ g. plan_makes files (dir_made files now path mode)
group_makes files caller now (Symlink path target) = λ g. plan_makes files (symlink_made files now path target)
group_makes files caller now (Link old new) = λ g. plan_makes files (linked files now old new)
group_makes files caller now (Unlink path) = λ g. plan_makes files (unlinked files now path)
group_makes files caller now (Rmdir path) = λ g. plan_makes files (dir_removed files now path)
group_makes files caller now (Rename old new) = λ g. plan_makes files (renamed files now old new)
group_makes files caller now (Truncate slot size) = λ g. plan_makes files (truncated files caller now slot size)
group_makes files caller now (Chmod path mode) = λ g. plan_makes files (mode_set files now path mode)
group_makes files caller now (OpenFile path slot) = λ g. opened_keeps files caller path slot
group_makes files caller now (Close slot) = λ g. absurd g
group_makes files caller now (Read slot offs len) = λ g. read_keeps files caller slot offs len
group_makes files caller now (Write slot offs len byte) = λ g. absurd g
group_makes files caller now (Fsync slot) = λ g. synced_keeps files caller slot
group_makes files caller now Flush = λ g. refl
group_makes files caller now (ListDir path) = λ g. listed_keeps files path
group_makes files caller now (Stat path) = λ g. told_keeps files path
group_makes files caller now (Readlink path) = λ g. link_keeps files path

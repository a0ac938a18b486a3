-- All operations together.
use Rattle.std.proofs.Common.{◌≡◌, ℕ, ◌-◌, ◌<◌, ◌^◌, true, not, ◌||◌, min, List, [], ◌∷◌, Ok, Err}
use Rattle.std.specs.Prelude.{nat_lt}
use Rattle.std.specs.List.{list_all}
use Rattle.std.proofs.lemmas.Bool.{and_parts, ltb-true}
use Rattle.fs_model.specs.declared.inode.Inode.{Inode}
use Rattle.fs_model.specs.declared.inode.Entry.{Entry}
use Rattle.fs_model.specs.declared.op.Op.{Op}
use Rattle.fs_model.specs.declared.op.Op.TheVariants.{Create, Mkdir, Symlink, Link, Unlink, Rmdir, Rename, OpenFile, Close, Read, Write, Truncate, Fsync, Flush, List as ListDir, Stat, Readlink, Chmod}
use Rattle.fs_model.specs.declared.refusal.Refusal.TheVariants.{Enoent, Enotdir, Einval, Ebadf}
use Rattle.fs_model.specs.declared.reply.Reply.TheVariants.{Done, Bytes, List as Listed, Target}
use Rattle.fs_model.specs.Attributes.{found, is_symlink, listed, told, stat_of, link_read}
use Rattle.fs_model.specs.Directory.{entries_in, by_hash}
use Rattle.fs_model.specs.Files.{Files, inode_at, handle_at, size_of, bytes_from}
use Rattle.fs_model.specs.Handles.{is_bad_slot, bytes_read, synced}
use Rattle.fs_model.specs.Operation.{plan_of, group_of, outcome_of}
use Rattle.fs_model.specs.Outcome.{Outcome, Plan, refuse, with_some, done_by, group_in, files_in}
use Rattle.fs_model.specs.Path.{is_dir}
use Rattle.fs_model.specs.Proper.{are_bytes}
use Rattle.fs_laws.specs.Sound.{IsSound, KeepsSound, LeavesSound, given}
use Rattle.fs_laws.proofs.Chmod.{mode_keeps}
use Rattle.fs_laws.proofs.Closes.{closed_sound, opened_sound, stays_sound}
use Rattle.fs_laws.proofs.Groups.{keeps_nothing}
use Rattle.fs_laws.proofs.Linking.{linked_keeps}
use Rattle.fs_laws.proofs.Makes.{created_keeps, dir_made_keeps, symlink_keeps}
use Rattle.fs_laws.proofs.Overs.{renamed_keeps}
use Rattle.fs_laws.proofs.Plans.{refuse_to, found_to, some_to}
use Rattle.fs_laws.proofs.Removals.{unlinked_keeps, dir_removed_keeps}
use Rattle.fs_laws.proofs.Truncates.{truncated_keeps}
use Rattle.fs_laws.proofs.Writes.{bytes_written_sound}

first_given : (path : List ℕ) (rest : List (List ℕ)) → list_all are_bytes (path ∷ rest) ≡ true → are_bytes path ≡ true
first_given path rest h = (and_parts (are_bytes path) (list_all are_bytes rest) h).0

pub group_keeps : (files : Files) (caller now : ℕ) (op : Op) → IsSound files → now < 2 ^ 64 → list_all are_bytes (given op) ≡ true → KeepsSound files (group_of files caller now op)
group_keeps files caller now (Create path mode) sound moment bytes = created_keeps files now path mode sound moment (first_given path [] bytes)
group_keeps files caller now (Mkdir path mode) sound moment bytes = dir_made_keeps files now path mode sound moment (first_given path [] bytes)
group_keeps files caller now (Symlink path target) sound moment bytes = let both = and_parts (are_bytes path) (list_all are_bytes (target ∷ [])) bytes in symlink_keeps files now path target sound moment both.0 (first_given target [] both.1)
group_keeps files caller now (Link old new) sound moment bytes = linked_keeps files now old new sound moment (first_given new [] bytes)
group_keeps files caller now (Unlink path) sound moment bytes = unlinked_keeps files now path sound moment
group_keeps files caller now (Rmdir path) sound moment bytes = dir_removed_keeps files now path sound moment
group_keeps files caller now (Rename old new) sound moment bytes = renamed_keeps files now old new sound moment (first_given new [] bytes)
group_keeps files caller now (Truncate slot size) sound moment bytes = (truncated_keeps files caller now slot size sound moment).keeps
group_keeps files caller now (Chmod path mode) sound moment bytes = mode_keeps files now path mode sound moment
group_keeps files caller now op sound moment bytes = keeps_nothing files sound

done_sound : (files : Files) (plan : Plan) → IsSound files → KeepsSound files (group_in plan) → LeavesSound files (files_in files (done_by files plan))
done_sound files (Err e) sound keeps = stays_sound files sound
done_sound files (Ok found) sound keeps = record { sound = record { proper = keeps.proper; handles = keeps.handles } }

read_sound : (files : Files) (caller slot offs len : ℕ) → IsSound files → LeavesSound files (files_in files (bytes_read files caller slot offs len))
read_sound files caller slot offs len sound =
    let P : Outcome → Type 0 = λ outcome. LeavesSound files (files_in files outcome) in
    let last : ℕ → Inode → Outcome = λ ino inode. Ok (Bytes (bytes_from files.tree.blocks ino offs (min len (size_of files.tree ino inode - offs))), files) in
    let with_it : ℕ → Outcome = λ ino. with_some (inode_at files.tree ino) Ebadf (last ino) in
    refuse_to P (is_bad_slot slot || nat_lt 65536 len) Einval (with_some (handle_at files caller slot) Ebadf with_it) (λ e. stays_sound files sound) (λ good.
    some_to P (handle_at files caller slot) Ebadf with_it (λ e. stays_sound files sound) (λ ino held.
    some_to P (inode_at files.tree ino) Ebadf (last ino) (λ e. stays_sound files sound) (λ inode there. stays_sound files sound)))

synced_sound : (files : Files) (caller slot : ℕ) → IsSound files → LeavesSound files (files_in files (synced files caller slot))
synced_sound files caller slot sound =
    let P : Outcome → Type 0 = λ outcome. LeavesSound files (files_in files outcome) in
    let last : ℕ → Outcome = λ ino. Ok (Done, files) in
    refuse_to P (is_bad_slot slot) Einval (with_some (handle_at files caller slot) Ebadf last) (λ e. stays_sound files sound) (λ good.
    some_to P (handle_at files caller slot) Ebadf last (λ e. stays_sound files sound) (λ ino held. stays_sound files sound))

listed_sound : (files : Files) (path : List ℕ) → IsSound files → LeavesSound files (files_in files (listed files path))
listed_sound files path sound =
    let P : Outcome → Type 0 = λ outcome. LeavesSound files (files_in files outcome) in
    let last : Entry → Outcome = λ at. Ok (Listed (by_hash (entries_in files.tree at.ino)), files) in
    let dir : Entry → Outcome = λ at. refuse (not (is_dir at.kind)) Enotdir (last at) in
    found_to P (found files path) dir (λ e. stays_sound files sound) (λ at f.
    refuse_to P (not (is_dir at.kind)) Enotdir (last at) (λ e. stays_sound files sound) (λ good. stays_sound files sound))

told_sound : (files : Files) (path : List ℕ) → IsSound files → LeavesSound files (files_in files (told files path))
told_sound files path sound =
    let P : Outcome → Type 0 = λ outcome. LeavesSound files (files_in files outcome) in
    let last : Entry → Inode → Outcome = λ at inode. Ok (stat_of files.tree at.ino inode, files) in
    let with_it : Entry → Outcome = λ at. with_some (inode_at files.tree at.ino) Enoent (last at) in
    found_to P (found files path) with_it (λ e. stays_sound files sound) (λ at f.
    some_to P (inode_at files.tree at.ino) Enoent (last at) (λ e. stays_sound files sound) (λ inode there. stays_sound files sound))

link_read_sound : (files : Files) (path : List ℕ) → IsSound files → LeavesSound files (files_in files (link_read files path))
link_read_sound files path sound =
    let P : Outcome → Type 0 = λ outcome. LeavesSound files (files_in files outcome) in
    let last : Inode → Outcome = λ inode. Ok (Target inode.extra, files) in
    let with_it : Entry → Outcome = λ at. with_some (inode_at files.tree at.ino) Enoent last in
    let link : Entry → Outcome = λ at. refuse (not (is_symlink at.kind)) Einval (with_it at) in
    found_to P (found files path) link (λ e. stays_sound files sound) (λ at f.
    refuse_to P (not (is_symlink at.kind)) Einval (with_it at) (λ e. stays_sound files sound) (λ good.
    some_to P (inode_at files.tree at.ino) Enoent last (λ e. stays_sound files sound) (λ inode there. stays_sound files sound)))

written_byte : (byte : ℕ) → list_all are_bytes ((byte ∷ []) ∷ []) ≡ true → byte < 256
written_byte byte h = ltb-true byte 256 (and_parts (nat_lt byte 256) true (first_given (byte ∷ []) [] h)).0

pub outcome_sound : (files : Files) (caller now : ℕ) (op : Op) → IsSound files → now < 2 ^ 64 → list_all are_bytes (given op) ≡ true → LeavesSound files (files_in files (outcome_of files caller now op))
outcome_sound files caller now (OpenFile path slot) sound moment bytes = opened_sound files caller path slot sound
outcome_sound files caller now (Close slot) sound moment bytes = closed_sound files caller slot sound
outcome_sound files caller now (Read slot offs len) sound moment bytes = read_sound files caller slot offs len sound
outcome_sound files caller now (Write slot offs len byte) sound moment bytes = bytes_written_sound files caller now slot offs len byte sound moment (written_byte byte bytes)
outcome_sound files caller now (Fsync slot) sound moment bytes = synced_sound files caller slot sound
outcome_sound files caller now Flush sound moment bytes = stays_sound files sound
outcome_sound files caller now (ListDir path) sound moment bytes = listed_sound files path sound
outcome_sound files caller now (Stat path) sound moment bytes = told_sound files path sound
outcome_sound files caller now (Readlink path) sound moment bytes = link_read_sound files path sound
outcome_sound files caller now op sound moment bytes = done_sound files (plan_of files caller now op) sound (group_keeps files caller now op sound moment bytes)

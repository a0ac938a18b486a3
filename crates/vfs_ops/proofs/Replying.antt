-- What the plain operation answers: never a refusal, and no bytes where it changes the files.
use Rattle.std.proofs.Common.{◌≡◌, ℕ, Bool, true, false, cond, ◌||◌, not, min, Ok, Err, refl, sym, ap, subst, ◌∙◌}
use Rattle.std.specs.Prelude.{◌==◌, ◌+◌, ◌-◌, if◌then◌else◌, is_some, nat_lt, List}
use Rattle.std.proofs.lemmas.Bool.{false≢true}
use Rattle.std.specs.BTreeMap.{insert_entry, is_at}
use Rattle.std.specs.Map.{remove_entry}
use Rattle.fs_model.specs.declared.inode.Entry.{Entry}
use Rattle.fs_model.specs.declared.inode.Inode.{Inode}
use Rattle.fs_model.specs.declared.op.Op.{Op}
use Rattle.fs_model.specs.declared.op.Op.TheVariants.{OpenFile, Close, Read, Write, Truncate, Fsync, Flush, List as ListDir, Stat, Readlink}
use Rattle.fs_model.specs.declared.refusal.Refusal.{Refusal}
use Rattle.fs_model.specs.declared.refusal.Refusal.TheVariants.{Enotdir, Eisdir, Enametoolong, Einval, Efbig, Enoent, Ebadf}
use Rattle.fs_model.specs.declared.reply.Reply.{Reply}
use Rattle.fs_model.specs.declared.reply.Reply.TheVariants.{Done, Ino, Count, Bytes, List as Listed, Target}
use Rattle.fs_model.specs.Attributes.{found, is_symlink, link_read, listed, stat_of, told}
use Rattle.fs_model.specs.Directory.{by_hash, entries_in}
use Rattle.fs_model.specs.Files.{Files, bytes_from, handle_at, inode_at, pair_cmp, size_of}
use Rattle.fs_model.specs.Handles.{bytes_read, bytes_written, closed, is_bad_slot, opened, size_limit, synced, tree_written}
use Rattle.fs_model.specs.Operation.{outcome_of}
use Rattle.fs_model.specs.Orphan.{within_orphans, without_lost}
use Rattle.fs_model.specs.Outcome.{Outcome, Plan, done_by, refuse, with_found, with_some}
use Rattle.fs_model.specs.Path.{has_long_name, is_dir, is_file, is_path, walked}
use Rattle.fs_model.specs.Truncation.{truncating}
use Rattle.fs_laws.specs.Sound.{IsSound}
use Rattle.fs_model.specs.Backing.{BackingState, orphan_room}
use Rattle.vfs_ops.specs.Operations.{is_of_names}
use Rattle.vfs_ops.specs.Steps.{allowed_on}
use Rattle.vfs_ops.specs.Replies.{holds_bytes, is_refusal}
use Rattle.vfs_ops.proofs.Orphans.{is_brief, names_answer, on_names}
use Rattle.vfs_ops.proofs.Plans.{refuse_to, found_to, some_to}

-- the reply is no refusal, and where it holds bytes the files are as before
pub record Answers (files : Files) (reply : Reply) (after : Files) : Type 0 where
  pub plain : is_refusal reply ≡ false
  pub bytes : holds_bytes reply ≡ true → after ≡ files

abbrev Fine : Files → Outcome → Type 0
Fine files (Ok done) = Answers files done.0 done.1
Fine files (Err refusal) = Unit {0}

none : (files : Files) (e : Refusal) → Fine files (Err e)
none files e = tt

-- a reply without bytes
brief : (files : Files) (reply : Reply) (after : Files) → is_brief reply ≡ true → Answers files reply after
brief files Done after is = record { plain = refl; bytes = λ h. absurd (false≢true h) }
brief files (Ino ino) after is = record { plain = refl; bytes = λ h. absurd (false≢true h) }
brief files reply after is = absurd (false≢true is)

opened_fine : (files : Files) (caller : ℕ) (path : List ℕ) (slot : ℕ) → Fine files (opened files caller path slot)
opened_fine files caller path slot =
    let P : Outcome → Type 0 = λ o. Fine files o in
    let last : Entry → Outcome = λ entry. Ok (Ino entry.ino, record files { handles = insert_entry pair_cmp files.handles (caller, slot) entry.ino }) in
    let file : Entry → Outcome = λ entry. refuse (not (is_file entry.kind)) Einval (last entry) in
    let plain : Entry → Outcome = λ entry. refuse (is_dir entry.kind) Eisdir (file entry) in
    let walk : Outcome = with_found (walked files.tree path) plain in
    let free : Outcome = refuse (is_some (handle_at files caller slot)) Ebadf walk in
    refuse_to P (is_bad_slot slot || not (is_path path)) Einval (refuse (has_long_name path) Enametoolong free) (none files) (λ a.
    refuse_to P (has_long_name path) Enametoolong free (none files) (λ b.
    refuse_to P (is_some (handle_at files caller slot)) Ebadf walk (none files) (λ c.
    found_to P (walked files.tree path) plain (none files) (λ entry at.
    refuse_to P (is_dir entry.kind) Eisdir (file entry) (none files) (λ d.
    refuse_to P (not (is_file entry.kind)) Einval (last entry) (none files) (λ e. record { plain = refl; bytes = λ h. absurd (false≢true h) }))))))

closed_fine : (files : Files) (caller slot : ℕ) → Fine files (closed files caller slot)
closed_fine files caller slot =
    let P : Outcome → Type 0 = λ o. Fine files o in
    let last : ℕ → Outcome = λ ino. Ok (Done, without_lost (record files { handles = remove_entry (is_at (pair_cmp (caller, slot))) files.handles }) ino) in
    refuse_to P (is_bad_slot slot) Einval (with_some (handle_at files caller slot) Ebadf last) (none files) (λ a.
    some_to P (handle_at files caller slot) Ebadf last (none files) (λ ino at. record { plain = refl; bytes = λ h. absurd (false≢true h) }))

read_fine : (files : Files) (caller slot offs len : ℕ) → Fine files (bytes_read files caller slot offs len)
read_fine files caller slot offs len =
    let P : Outcome → Type 0 = λ o. Fine files o in
    let last : ℕ → Inode → Outcome = λ ino inode. Ok (Bytes (bytes_from files.tree.blocks ino offs (min len (size_of files.tree ino inode - offs))), files) in
    let there : ℕ → Outcome = λ ino. with_some (inode_at files.tree ino) Ebadf (last ino) in
    refuse_to P (is_bad_slot slot || nat_lt 65536 len) Einval (with_some (handle_at files caller slot) Ebadf there) (none files) (λ a.
    some_to P (handle_at files caller slot) Ebadf there (none files) (λ ino at.
    some_to P (inode_at files.tree ino) Ebadf (last ino) (none files) (λ inode is. record { plain = refl; bytes = λ h. refl })))

written_fine : (files : Files) (caller now slot offs len byte : ℕ) → Fine files (bytes_written files caller now slot offs len byte)
written_fine files caller now slot offs len byte =
    let P : Outcome → Type 0 = λ o. Fine files o in
    let last : ℕ → Inode → Outcome = λ ino inode. Ok (Count len, if len == 0 then files else record files { tree = tree_written files.tree ino inode now offs len byte }) in
    let few : ℕ → Inode → Outcome = λ ino inode. refuse (nat_lt size_limit (offs + len)) Efbig (last ino inode) in
    let there : ℕ → Outcome = λ ino. with_some (inode_at files.tree ino) Ebadf (few ino) in
    refuse_to P (is_bad_slot slot || nat_lt 65536 len) Einval (with_some (handle_at files caller slot) Ebadf there) (none files) (λ a.
    some_to P (handle_at files caller slot) Ebadf there (none files) (λ ino at.
    some_to P (inode_at files.tree ino) Ebadf (few ino) (none files) (λ inode is.
    refuse_to P (nat_lt size_limit (offs + len)) Efbig (last ino inode) (none files) (λ b. record { plain = refl; bytes = λ h. absurd (false≢true h) }))))

synced_fine : (files : Files) (caller slot : ℕ) → Fine files (synced files caller slot)
synced_fine files caller slot =
    let P : Outcome → Type 0 = λ o. Fine files o in
    let last : ℕ → Outcome = λ ino. Ok (Done, files) in
    refuse_to P (is_bad_slot slot) Einval (with_some (handle_at files caller slot) Ebadf last) (none files) (λ a.
    some_to P (handle_at files caller slot) Ebadf last (none files) (λ ino at. record { plain = refl; bytes = λ h. refl }))

listed_fine : (files : Files) (path : List ℕ) → Fine files (listed files path)
listed_fine files path =
    let P : Outcome → Type 0 = λ o. Fine files o in
    let last : Entry → Outcome = λ at. Ok (Listed (by_hash (entries_in files.tree at.ino)), files) in
    let dir : Entry → Outcome = λ at. refuse (not (is_dir at.kind)) Enotdir (last at) in
    found_to P (found files path) dir (none files) (λ at is.
    refuse_to P (not (is_dir at.kind)) Enotdir (last at) (none files) (λ a. record { plain = refl; bytes = λ h. refl }))

told_fine : (files : Files) (path : List ℕ) → Fine files (told files path)
told_fine files path =
    let P : Outcome → Type 0 = λ o. Fine files o in
    let last : Entry → Inode → Outcome = λ at inode. Ok (stat_of files.tree at.ino inode, files) in
    let there : Entry → Outcome = λ at. with_some (inode_at files.tree at.ino) Enoent (last at) in
    found_to P (found files path) there (none files) (λ at is.
    some_to P (inode_at files.tree at.ino) Enoent (last at) (none files) (λ inode a. record { plain = refl; bytes = λ h. refl }))

link_fine : (files : Files) (path : List ℕ) → Fine files (link_read files path)
link_fine files path =
    let P : Outcome → Type 0 = λ o. Fine files o in
    let last : Inode → Outcome = λ inode. Ok (Target inode.extra, files) in
    let there : Entry → Outcome = λ at. with_some (inode_at files.tree at.ino) Enoent last in
    let link : Entry → Outcome = λ at. refuse (not (is_symlink at.kind)) Einval (there at) in
    found_to P (found files path) link (none files) (λ at is.
    refuse_to P (not (is_symlink at.kind)) Einval (there at) (none files) (λ a.
    some_to P (inode_at files.tree at.ino) Enoent last (none files) (λ inode b. record { plain = refl; bytes = λ h. refl })))

truncated_fine : (files : Files) (caller now slot size : ℕ) → Fine files (outcome_of files caller now (Truncate slot size))
truncated_fine files caller now slot size =
    let P : Plan → Type 0 = λ plan. Fine files (done_by files plan) in
    let last : ℕ → Inode → Plan = λ ino inode. Ok (Done, truncating files.tree ino inode size now) in
    let few : ℕ → Inode → Plan = λ ino inode. refuse (nat_lt size_limit size) Efbig (last ino inode) in
    let there : ℕ → Plan = λ ino. with_some (inode_at files.tree ino) Ebadf (few ino) in
    refuse_to P (is_bad_slot slot) Einval (with_some (handle_at files caller slot) Ebadf there) (none files) (λ a.
    some_to P (handle_at files caller slot) Ebadf there (none files) (λ ino at.
    some_to P (inode_at files.tree ino) Ebadf (few ino) (none files) (λ inode is.
    refuse_to P (nat_lt size_limit size) Efbig (last ino inode) (none files) (λ b. record { plain = refl; bytes = λ h. absurd (false≢true h) }))))

named_fine : (files : Files) (outcome : Outcome) → ((reply : Reply) (after : Files) → outcome ≡ Ok (reply, after) → is_brief reply ≡ true) → Fine files outcome
named_fine files (Ok done) tells = brief files done.0 done.1 (tells done.0 done.1 refl)
named_fine files (Err e) tells = tt

all_fine : (files : Files) (caller now : ℕ) (op : Op) → IsSound files → Fine files (outcome_of files caller now op)
all_fine files caller now (OpenFile path slot) sound = opened_fine files caller path slot
all_fine files caller now (Close slot) sound = closed_fine files caller slot
all_fine files caller now (Read slot offs len) sound = read_fine files caller slot offs len
all_fine files caller now (Write slot offs len byte) sound = written_fine files caller now slot offs len byte
all_fine files caller now (Fsync slot) sound = synced_fine files caller slot
all_fine files caller now Flush sound = record { plain = refl; bytes = λ h. refl }
all_fine files caller now (ListDir path) sound = listed_fine files path
all_fine files caller now (Stat path) sound = told_fine files path
all_fine files caller now (Readlink path) sound = link_fine files path
all_fine files caller now (Truncate slot size) sound = truncated_fine files caller now slot size
all_fine files caller now op sound = named_fine files (outcome_of files caller now op) (λ reply after done. names_answer files caller now op reply after sound refl done)

pub answers : (files : Files) (caller now : ℕ) (op : Op) (reply : Reply) (after : Files) → IsSound files → outcome_of files caller now op ≡ Ok (reply, after) → Answers files reply after
answers files caller now op reply after sound done = subst (λ (o : Outcome). Fine files o) done (all_fine files caller now op sound)

-- what a backing lets through isn't a refusal either
pub done_plain : (state : BackingState) (files : Files) (caller now : ℕ) (op : Op) (reply : Reply) (after : Files) → IsSound files → allowed_on state files caller now op ≡ Ok (reply, after) → is_refusal reply ≡ false
done_plain state files caller now op reply after sound done = by (is_of_names op) refl
  where
    by : (b : Bool) → is_of_names op ≡ b → is_refusal reply ≡ false
    by true names =
        let P : Bool → Outcome = λ b. cond b (within_orphans (orphan_room state) state.orphan_limit files (outcome_of files caller now op)) (outcome_of files caller now op) in
        let brief_is = (on_names (orphan_room state) state.orphan_limit files caller now op reply after sound names (sym (ap P names) ∙ done)).brief in
        (brief files reply after brief_is).plain
    by false names =
        let P : Bool → Outcome = λ b. cond b (within_orphans (orphan_room state) state.orphan_limit files (outcome_of files caller now op)) (outcome_of files caller now op) in
        (answers files caller now op reply after sound (sym (ap P names) ∙ done)).plain

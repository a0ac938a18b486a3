-- Which operations leave an inode without a name: those of names alone, one at most, and where their group sets one.
use Rattle.std.proofs.Common.{◌≡◌, ℕ, ◌+◌, ◌≤◌, Bool, true, false, cond, ◌&&◌, ◌||◌, not, min, List, [], ◌∷◌, Ok, Err, length, refl, sym, ap, subst, arith}
use Rattle.std.specs.Prelude.{◌==◌, ◌-◌, ◌/◌, ◌%◌, filter, is_some, nat_lt, take}
use Rattle.std.specs.BTreeMap.{insert_entry, is_at}
use Rattle.std.specs.Map.{keys_of, remove_entry}
use Rattle.std.specs.Ordering.{nat_cmp}
use Rattle.std.proofs.lemmas.Bool.{false≢true, le-ltb}
use Rattle.fs_model.specs.declared.change.Change.{Change}
use Rattle.fs_model.specs.declared.change.Change.TheVariants.{SetInode, SetBlock, CutBlocks}
use Rattle.fs_model.specs.declared.inode.Entry.{Entry}
use Rattle.fs_model.specs.declared.inode.Inode.{Inode}
use Rattle.fs_model.specs.declared.op.Op.{Op}
use Rattle.fs_model.specs.declared.op.Op.TheVariants.{OpenFile, Close, Read, Write, Truncate, Fsync, Flush, List as ListDir, Stat, Readlink}
use Rattle.fs_model.specs.declared.refusal.Refusal.{Refusal}
use Rattle.fs_model.specs.declared.refusal.Refusal.TheVariants.{Efbig, Enotdir, Eisdir, Enametoolong, Einval, Enoent, Ebadf}
use Rattle.fs_model.specs.declared.reply.Reply.{Reply}
use Rattle.fs_model.specs.declared.reply.Reply.TheVariants.{Done, Ino, Bytes, List as Listed, Target}
use Rattle.fs_model.specs.Attributes.{found, is_symlink, link_read, listed, stat_of, told}
use Rattle.fs_model.specs.Change.{applied, apply, without_inode}
use Rattle.fs_model.specs.Directory.{by_hash, entries_in}
use Rattle.fs_model.specs.Files.{Files, Tree, Inodes, block_at, bytes_from, handle_at, inode_at, pair_cmp, size_of, with_block}
use Rattle.fs_model.specs.Handles.{bytes_read, closed, is_bad_slot, opened, size_limit, synced}
use Rattle.fs_model.specs.Making.{touched}
use Rattle.fs_model.specs.Operation.{group_of, outcome_of, plan_of}
use Rattle.fs_model.specs.Orphan.{is_nameless, is_open, leaves_orphan, nameless, without_lost}
use Rattle.fs_model.specs.Outcome.{Outcome, Plan, done_by, group_in, refuse, with_found, with_some}
use Rattle.fs_model.specs.Path.{has_long_name, is_dir, is_file, is_path, walked}
use Rattle.fs_model.specs.Truncation.{shortening, truncating}
use Rattle.fs_laws.specs.Sound.{IsSound}
use Rattle.vfs_plans.specs.Operations.{is_truncate}
use Rattle.vfs_ops.specs.Operations.{is_of_names, orphans}
use Rattle.vfs_ops.proofs.Cutting.{no_group}
use Rattle.vfs_ops.proofs.Groups.{outcome_is}
use Rattle.vfs_ops.proofs.Nameless.{one_at_most, set_again}
use Rattle.vfs_ops.proofs.Orphaning.{Keeps, write_keeps}
use Rattle.vfs_ops.proofs.Orphans.{orphans_told, told_of}
use Rattle.vfs_ops.proofs.Plans.{found_to, refuse_to, some_to}

none : (files : Files) (e : Refusal) → Keeps files (Err e)
none files e = tt

opened_keeps : (files : Files) (caller : ℕ) (path : List ℕ) (slot : ℕ) → Keeps files (opened files caller path slot)
opened_keeps files caller path slot =
    let P : Outcome → Type 0 = λ o. Keeps files o in
    let last : Entry → Outcome = λ entry. Ok (Ino entry.ino, record files { handles = insert_entry pair_cmp files.handles (caller, slot) entry.ino }) in
    let file : Entry → Outcome = λ entry. refuse (not (is_file entry.kind)) Einval (last entry) in
    let plain : Entry → Outcome = λ entry. refuse (is_dir entry.kind) Eisdir (file entry) in
    let walk : Outcome = with_found (walked files.tree path) plain in
    let free : Outcome = refuse (is_some (handle_at files caller slot)) Ebadf walk in
    refuse_to P (is_bad_slot slot || not (is_path path)) Einval (refuse (has_long_name path) Enametoolong free) (none files) (λ a.
    refuse_to P (has_long_name path) Enametoolong free (none files) (λ b.
    refuse_to P (is_some (handle_at files caller slot)) Ebadf walk (none files) (λ c.
    found_to P (walked files.tree path) plain (none files) (λ entry at.
    refuse_to P (is_dir entry.kind) Eisdir (file entry) (none files) (λ d.
    refuse_to P (not (is_file entry.kind)) Einval (last entry) (none files) (λ e. omega arith))))))

-- what is taken out leaves no more without a name
abbrev lost_in : Inodes → ℕ
lost_in inodes = length (keys_of (filter (λ e. e.1.nlink == 0) inodes))

removed_few : (gone : ℕ → Bool) (inodes : Inodes) → lost_in (remove_entry gone inodes) ≤ lost_in inodes
removed_few gone [] = omega arith
removed_few gone (e ∷ inodes) = by (removed_few gone inodes) (gone e.0)
  where
    left : Inodes
    left = filter (λ (e : ℕ × Inode). e.1.nlink == 0) inodes

    kept : Inodes
    kept = filter (λ (e : ℕ × Inode). e.1.nlink == 0) (remove_entry gone inodes)

    step : (t : Bool) → length (keys_of kept) ≤ length (keys_of left) → length (keys_of (cond t (e ∷ kept) kept)) ≤ length (keys_of (cond t (e ∷ left) left))
    step true more = omega (arith, more)
    step false more = more

    stay : (t : Bool) → length (keys_of left) ≤ length (keys_of (cond t (e ∷ left) left))
    stay true = omega arith
    stay false = omega arith

    by : length (keys_of kept) ≤ length (keys_of left) → (b : Bool) → lost_in (cond b inodes (e ∷ remove_entry gone inodes)) ≤ lost_in (e ∷ inodes)
    by more true = stay (e.1.nlink == 0)
    by more false = step (e.1.nlink == 0) more

closed_keeps : (files : Files) (caller slot : ℕ) → Keeps files (closed files caller slot)
closed_keeps files caller slot =
    let P : Outcome → Type 0 = λ o. Keeps files o in
    let left : Files = record files { handles = remove_entry (is_at (pair_cmp (caller, slot))) files.handles } in
    let last : ℕ → Outcome = λ ino. Ok (Done, without_lost left ino) in
    refuse_to P (is_bad_slot slot) Einval (with_some (handle_at files caller slot) Ebadf last) (none files) (λ a.
    some_to P (handle_at files caller slot) Ebadf last (none files) (λ ino at. by left refl ino (is_nameless left.tree ino && not (is_open left ino))))
  where
    by : (left : Files) → left.tree ≡ files.tree → (ino : ℕ) (lost : Bool) → length (nameless (cond lost (record left { tree = without_inode left.tree ino }) left).tree) ≤ length (nameless files.tree)
    by left same ino true =
        let few = removed_few (is_at (nat_cmp ino)) left.tree.inodes in
        subst (λ (t : Tree). length (nameless (without_inode left.tree ino)) ≤ length (nameless t)) same few
    by left same ino false = let e = ap (λ (t : Tree). length (nameless t)) same in omega (arith, e)

read_keeps : (files : Files) (caller slot offs len : ℕ) → Keeps files (bytes_read files caller slot offs len)
read_keeps files caller slot offs len =
    let P : Outcome → Type 0 = λ o. Keeps files o in
    let last : ℕ → Inode → Outcome = λ ino inode. Ok (Bytes (bytes_from files.tree.blocks ino offs (min len (size_of files.tree ino inode - offs))), files) in
    let there : ℕ → Outcome = λ ino. with_some (inode_at files.tree ino) Ebadf (last ino) in
    refuse_to P (is_bad_slot slot || nat_lt 65536 len) Einval (with_some (handle_at files caller slot) Ebadf there) (none files) (λ a.
    some_to P (handle_at files caller slot) Ebadf there (none files) (λ ino at.
    some_to P (inode_at files.tree ino) Ebadf (last ino) (none files) (λ inode is. omega arith)))

synced_keeps : (files : Files) (caller slot : ℕ) → Keeps files (synced files caller slot)
synced_keeps files caller slot =
    let P : Outcome → Type 0 = λ o. Keeps files o in
    let last : ℕ → Outcome = λ ino. Ok (Done, files) in
    refuse_to P (is_bad_slot slot) Einval (with_some (handle_at files caller slot) Ebadf last) (none files) (λ a.
    some_to P (handle_at files caller slot) Ebadf last (none files) (λ ino at. omega arith))

listed_keeps : (files : Files) (path : List ℕ) → Keeps files (listed files path)
listed_keeps files path =
    let P : Outcome → Type 0 = λ o. Keeps files o in
    let last : Entry → Outcome = λ at. Ok (Listed (by_hash (entries_in files.tree at.ino)), files) in
    let dir : Entry → Outcome = λ at. refuse (not (is_dir at.kind)) Enotdir (last at) in
    found_to P (found files path) dir (none files) (λ at is. refuse_to P (not (is_dir at.kind)) Enotdir (last at) (none files) (λ a. omega arith))

told_keeps : (files : Files) (path : List ℕ) → Keeps files (told files path)
told_keeps files path =
    let P : Outcome → Type 0 = λ o. Keeps files o in
    let last : Entry → Inode → Outcome = λ at inode. Ok (stat_of files.tree at.ino inode, files) in
    let there : Entry → Outcome = λ at. with_some (inode_at files.tree at.ino) Enoent (last at) in
    found_to P (found files path) there (none files) (λ at is. some_to P (inode_at files.tree at.ino) Enoent (last at) (none files) (λ inode a. omega arith))

link_keeps : (files : Files) (path : List ℕ) → Keeps files (link_read files path)
link_keeps files path =
    let P : Outcome → Type 0 = λ o. Keeps files o in
    let last : Inode → Outcome = λ inode. Ok (Target inode.extra, files) in
    let there : Entry → Outcome = λ at. with_some (inode_at files.tree at.ino) Enoent last in
    let link : Entry → Outcome = λ at. refuse (not (is_symlink at.kind)) Einval (there at) in
    found_to P (found files path) link (none files) (λ at is.
    refuse_to P (not (is_symlink at.kind)) Einval (there at) (none files) (λ a.
    some_to P (inode_at files.tree at.ino) Enoent last (none files) (λ inode b. omega arith)))

-- the blocks aside, what sets a size sets its inode again
pub shortened_inodes : (tree : Tree) (ino block : ℕ) (bytes : List ℕ) (b : Bool) → (apply tree (cond b (SetBlock ino block bytes ∷ []) [])).inodes ≡ tree.inodes
shortened_inodes tree ino block bytes true = by (is_some (inode_at tree ino))
  where
    by : (b : Bool) → (cond b (record tree { blocks = with_block tree.blocks ino block bytes }) tree).inodes ≡ tree.inodes
    by true = refl
    by false = refl
shortened_inodes tree ino block bytes false = refl

sized_inodes : (tree : Tree) (ino : ℕ) (inode : Inode) (size now : ℕ) → (apply tree (truncating tree ino inode size now)).inodes ≡ insert_entry nat_cmp tree.inodes ino (touched now (record inode { size = size }))
sized_inodes tree ino inode size now = by (nat_lt size (size_of tree ino inode))
  where
    set : Change
    set = SetInode ino (touched now (record inode { size = size }))

    cut : Tree
    cut = applied (applied tree set) (CutBlocks ino (size_of tree ino inode) size)

    bytes : List ℕ
    bytes = block_at tree.blocks ino (size / 4096)

    by : (b : Bool) → (apply tree (set ∷ cond b (CutBlocks ino (size_of tree ino inode) size ∷ shortening tree.blocks ino size) [])).inodes ≡ insert_entry nat_cmp tree.inodes ino (touched now (record inode { size = size }))
    by true = shortened_inodes cut ino (size / 4096) (take (size % 4096) bytes) (not (size % 4096 == 0) && nat_lt (size % 4096) (length bytes))
    by false = refl

pub sized_keeps : (files : Files) (caller now slot size : ℕ) → IsSound files → Keeps files (outcome_of files caller now (Truncate slot size))
sized_keeps files caller now slot size sound =
    let P : Plan → Type 0 = λ p. Keeps files (done_by files p) in
    let last : ℕ → Inode → Plan = λ ino inode. Ok (Done, truncating files.tree ino inode size now) in
    let small : ℕ → Inode → Plan = λ ino inode. refuse (nat_lt size_limit size) Efbig (last ino inode) in
    let there : ℕ → Plan = λ ino. with_some (inode_at files.tree ino) Ebadf (small ino) in
    let bad : (e : Refusal) → P (Err e) = λ e. tt in
    refuse_to P (is_bad_slot slot) Einval (with_some (handle_at files caller slot) Ebadf there) bad (λ a.
    some_to P (handle_at files caller slot) Ebadf there bad (λ ino at.
    some_to P (inode_at files.tree ino) Ebadf (small ino) bad (λ inode is.
    refuse_to P (nat_lt size_limit size) Efbig (last ino inode) bad (λ b.
    subst (λ inodes. lost_in inodes ≤ length (nameless files.tree)) (sym (sized_inodes files.tree ino inode size now)) (set_again files.tree ino inode (touched now (record inode { size = size })) sound.proper is refl)))))

-- any operation but one of names leaves no more inodes without a name
others_keep : (files : Files) (caller now : ℕ) (op : Op) → IsSound files → is_of_names op ≡ false → Keeps files (outcome_of files caller now op)
others_keep files caller now (OpenFile path slot) sound other = opened_keeps files caller path slot
others_keep files caller now (Close slot) sound other = closed_keeps files caller slot
others_keep files caller now (Read slot offs len) sound other = read_keeps files caller slot offs len
others_keep files caller now (Write slot offs len byte) sound other = write_keeps files caller now slot offs len byte sound
others_keep files caller now (Fsync slot) sound other = synced_keeps files caller slot
others_keep files caller now Flush sound other = omega arith
others_keep files caller now (ListDir path) sound other = listed_keeps files path
others_keep files caller now (Stat path) sound other = told_keeps files path
others_keep files caller now (Readlink path) sound other = link_keeps files path
others_keep files caller now (Truncate slot size) sound other = sized_keeps files caller now slot size sound
others_keep files caller now op sound other = absurd (false≢true (sym other))

-- What an operation leaves without a name: one inode more at most, and that where its group sets one.
abbrev Leaves : Files → List Change → Outcome → Type 0
Leaves files group (Ok done) = (length (nameless done.1.tree) ≤ length (nameless files.tree) + 1) × (leaves_orphan files done.1 ≡ orphans group)
Leaves files group (Err refusal) = Unit {0}

no_more : (files : Files) (outcome : Outcome) → Keeps files outcome → Leaves files [] outcome
no_more files (Ok done) few = (omega (arith, few), le-ltb (length (nameless files.tree)) (length (nameless done.1.tree)) few)
no_more files (Err refusal) few = tt

names_leave : (files : Files) (caller now : ℕ) (op : Op) → IsSound files → is_of_names op ≡ true → Leaves files (group_of files caller now op) (outcome_of files caller now op)
names_leave files caller now op sound is =
    subst (λ (o : Outcome). Leaves files (group_of files caller now op) o) (sym (outcome_is files caller now op is)) (by (plan_of files caller now op) refl)
  where
    by : (plan : Plan) → plan_of files caller now op ≡ plan → Leaves files (group_in plan) (done_by files plan)
    by (Err refusal) found = tt
    by (Ok plain) found =
        (one_at_most files plain.1 sound.proper (told_of files caller now op plain.0 plain.1 sound is found).tells, orphans_told files caller now op plain.0 plain.1 sound is found)

all_leave : (files : Files) (caller now : ℕ) (op : Op) → IsSound files → is_truncate op ≡ false → Leaves files (group_of files caller now op) (outcome_of files caller now op)
all_leave files caller now op sound plain = by (is_of_names op) refl
  where
    by : (b : Bool) → is_of_names op ≡ b → Leaves files (group_of files caller now op) (outcome_of files caller now op)
    by true is = names_leave files caller now op sound is
    by false other =
        subst (λ (group : List Change). Leaves files group (outcome_of files caller now op)) (sym (no_group files caller now op other plain)) (no_more files (outcome_of files caller now op) (others_keep files caller now op sound other))

-- whatever the operation is, one inode more is without a name at most
abbrev LeavesOne : Files → Outcome → Type 0
LeavesOne files (Ok done) = length (nameless done.1.tree) ≤ length (nameless files.tree) + 1
LeavesOne files (Err refusal) = Unit {0}

one_of : (files : Files) (group : List Change) (outcome : Outcome) → Leaves files group outcome → LeavesOne files outcome
one_of files group (Ok done) h = h.0
one_of files group (Err refusal) h = tt

all_leave_one : (files : Files) (caller now : ℕ) (op : Op) → IsSound files → LeavesOne files (outcome_of files caller now op)
all_leave_one files caller now op sound = by (is_of_names op) refl
  where
    by : (b : Bool) → is_of_names op ≡ b → LeavesOne files (outcome_of files caller now op)
    by true is = one_of files (group_of files caller now op) (outcome_of files caller now op) (names_leave files caller now op sound is)
    by false other = one_of files [] (outcome_of files caller now op) (no_more files (outcome_of files caller now op) (others_keep files caller now op sound other))

-- of an operation that is done
pub one_left : (files after : Files) (caller now : ℕ) (op : Op) (reply : Reply) → IsSound files → outcome_of files caller now op ≡ Ok (reply, after) → length (nameless after.tree) ≤ length (nameless files.tree) + 1
one_left files after caller now op reply sound done = subst (λ (o : Outcome). LeavesOne files o) done (all_leave_one files caller now op sound)

pub done_leaves : (files after : Files) (caller now : ℕ) (op : Op) (reply : Reply) → IsSound files → is_truncate op ≡ false → outcome_of files caller now op ≡ Ok (reply, after)
    → (length (nameless after.tree) ≤ length (nameless files.tree) + 1) × (leaves_orphan files after ≡ orphans (group_of files caller now op))
done_leaves files after caller now op reply sound plain done = subst (λ (o : Outcome). Leaves files (group_of files caller now op) o) done (all_leave files caller now op sound plain)

-- The plain operation refuses for the words of a call and for names alone: want of room, a read-only store, a fault and want of memory are of the store. Its group has five changes at most.
use Rattle.std.proofs.Common.{◌≡◌, ℕ, ◌≤◌, Bool, true, false, ◌&&◌, ◌||◌, not, Option, Some, None, Ok, Err, List, [], ◌∷◌, ◌++◌, length, refl, sym, subst, arith, length-append}
use Rattle.std.specs.Prelude.{◌==◌, Result, if◌then◌else◌, ◌+◌, is_some, nat_le, nat_lt}
use Rattle.std.specs.Option.{option_map_or}
use Rattle.std.proofs.lemmas.Bool.{false≢true}
use Rattle.fs_model.specs.declared.change.Change.{Change}
use Rattle.fs_model.specs.declared.change.Change.TheVariants.{DropEntry, SetEntry, SetInode}
use Rattle.fs_model.specs.declared.inode.Entry.{Entry}
use Rattle.fs_model.specs.declared.inode.Inode.{Inode}
use Rattle.fs_model.specs.declared.op.Op.{Op}
use Rattle.fs_model.specs.declared.op.Op.TheVariants.{Create, Mkdir, Symlink, Link, Unlink, Rmdir, Rename, OpenFile, Close, Read, Write, Truncate, Fsync, Flush, List as ListDir, Stat, Readlink, Chmod}
use Rattle.fs_model.specs.declared.refusal.Refusal.{Refusal}
use Rattle.fs_model.specs.declared.refusal.Refusal.TheVariants.{Ebadf, Eexist, Efbig, Einval, Eisdir, Emlink, Enametoolong, Enfile, Enoent, Enotdir, Enotempty}
use Rattle.fs_model.specs.declared.refusal.Table.TheVariants.{Inodes}
use Rattle.fs_model.specs.declared.reply.Reply.{Reply}
use Rattle.fs_model.specs.declared.reply.Reply.TheVariants.{Done}
use Rattle.fs_model.specs.Attributes.{found, is_symlink, link_read, listed, told}
use Rattle.fs_model.specs.declared.share.Share.{Share}
use Rattle.fs_model.specs.Directory.{counted, dir_links, has_no_entry, is_linked_out, no_share, share_of}
use Rattle.fs_model.specs.Files.{Files, Tree, entry_at, handle_at, inode_at}
use Rattle.fs_model.specs.Handles.{bytes_read, bytes_written, closed, is_bad_slot, opened, size_limit, synced}
use Rattle.fs_model.specs.Links.{losing, removing}
use Rattle.fs_model.specs.Making.{inode_limit, is_bad_mode, is_bad_target, is_name_path, made, new_dir, new_file, new_symlink, touched, touching}
use Rattle.fs_model.specs.Need.{truncation_need}
use Rattle.fs_model.specs.Operation.{group_of, outcome_of, plan_of}
use Rattle.fs_model.specs.Outcome.{Plan, done_by, group_in, refuse, with_found, with_some}
use Rattle.fs_model.specs.Path.{child, components, front_of, has_long_name, is_dir, is_file, is_path, last_of, only_dir, or_missing, parent_of, reached, root_entry, walked}
use Rattle.fs_model.specs.Rename.{coming, comes_linked_out, is_under, moved, moving}
use Rattle.vfs_plans.specs.Operations.{is_truncate}
use Rattle.vfs_ops.specs.Kinds.{is_late}
use Rattle.vfs_ops.specs.Operations.{nodes_asked}

-- a refusal isn't one of the store
record IsPrompt {A : Type 0} (result : Result A Refusal) : Type 0 where
  early : (refusal : Refusal) → result ≡ Err refusal → is_late refusal ≡ false

done : {A : Type 0} (x : A) → IsPrompt (Ok x)
done x = record { early = λ refusal e. absurd cc }

failed : {A : Type 0} (refusal : Refusal) → is_late refusal ≡ false → IsPrompt {A = A} (Err refusal)
failed refusal early = record { early = λ other e. let same : refusal ≡ other = cc in subst (λ (r : Refusal). is_late r ≡ false) same early }

refused : {A : Type 0} (b : Bool) (refusal : Refusal) (next : Result A Refusal) → is_late refusal ≡ false → IsPrompt next → IsPrompt (refuse b refusal next)
refused true refusal next early rest = failed refusal early
refused false refusal next early rest = rest

sought : {A B : Type 0} (x : Result A Refusal) (next : A → Result B Refusal) → IsPrompt x → ((a : A) → IsPrompt (next a)) → IsPrompt (with_found x next)
sought (Err e) next early rest = failed e (early.early e refl)
sought (Ok a) next early rest = rest a

given : {A B : Type 0} (x : Option A) (refusal : Refusal) (next : A → Result B Refusal) → is_late refusal ≡ false → ((a : A) → IsPrompt (next a)) → IsPrompt (with_some x refusal next)
given None refusal next early rest = failed refusal early
given (Some a) refusal next early rest = rest a

dir_only : (b : Bool) (at : Entry) → IsPrompt {A = Entry} (if b then Ok at else Err Enotdir)
dir_only true at = done at
dir_only false at = failed Enotdir refl

missing : (x : Option Entry) → IsPrompt (or_missing x)
missing None = failed Enoent refl
missing (Some entry) = done entry

next_child : (tree : Tree) (name : List ℕ) (at : Entry) (b : Bool) → IsPrompt (if b then or_missing (entry_at tree at.ino name) else Err Enotdir)
next_child tree name at true = missing (entry_at tree at.ino name)
next_child tree name at false = failed Enotdir refl

below : (tree : Tree) (name : List ℕ) (at : Result Entry Refusal) → IsPrompt at → IsPrompt (child tree name at)
below tree name (Err e) early = failed e (early.early e refl)
below tree name (Ok at) early = next_child tree name at (is_dir at.kind)

reached_prompt : (tree : Tree) (at : Result Entry Refusal) (names : List (List ℕ)) → IsPrompt at → IsPrompt (reached tree at names)
reached_prompt tree at [] early = early
reached_prompt tree at (name ∷ names) early = reached_prompt tree (child tree name at) names (below tree name at early)

only_prompt : (at : Result Entry Refusal) → IsPrompt at → IsPrompt (only_dir at)
only_prompt (Err e) early = failed e (early.early e refl)
only_prompt (Ok at) early = dir_only (is_dir at.kind) at

walk_prompt : (tree : Tree) (path : List ℕ) → IsPrompt (walked tree path)
walk_prompt tree path = reached_prompt tree (Ok root_entry) (components path) (done root_entry)

parent_prompt : (tree : Tree) (path : List ℕ) → IsPrompt (parent_of tree path)
parent_prompt tree path = only_prompt (reached tree (Ok root_entry) (front_of (components path))) (reached_prompt tree (Ok root_entry) (front_of (components path)) (done root_entry))

found_prompt : (files : Files) (path : List ℕ) → IsPrompt (found files path)
found_prompt files path = refused (not (is_path path)) Einval _ refl (refused (has_long_name path) Enametoolong _ refl (walk_prompt files.tree path))

opened_prompt : (files : Files) (caller : ℕ) (path : List ℕ) (slot : ℕ) → IsPrompt (opened files caller path slot)
opened_prompt files caller path slot =
    refused (is_bad_slot slot || not (is_path path)) Einval _ refl
    (refused (has_long_name path) Enametoolong _ refl
    (refused (is_some (handle_at files caller slot)) Ebadf _ refl
    (sought (walked files.tree path) _ (walk_prompt files.tree path) (λ entry.
    refused (is_dir entry.kind) Eisdir _ refl
    (refused (not (is_file entry.kind)) Einval _ refl (done _))))))

closed_prompt : (files : Files) (caller slot : ℕ) → IsPrompt (closed files caller slot)
closed_prompt files caller slot = refused (is_bad_slot slot) Einval _ refl (given (handle_at files caller slot) Ebadf _ refl (λ ino. done _))

read_prompt : (files : Files) (caller slot offs len : ℕ) → IsPrompt (bytes_read files caller slot offs len)
read_prompt files caller slot offs len =
    refused (is_bad_slot slot || nat_lt 65536 len) Einval _ refl (given (handle_at files caller slot) Ebadf _ refl (λ ino. given (inode_at files.tree ino) Ebadf _ refl (λ inode. done _)))

write_prompt : (files : Files) (caller now slot offs len byte : ℕ) → IsPrompt (bytes_written files caller now slot offs len byte)
write_prompt files caller now slot offs len byte =
    refused (is_bad_slot slot || nat_lt 65536 len) Einval _ refl
    (given (handle_at files caller slot) Ebadf _ refl (λ ino. given (inode_at files.tree ino) Ebadf _ refl (λ inode. refused (nat_lt size_limit (offs + len)) Efbig _ refl (done _))))

sync_prompt : (files : Files) (caller slot : ℕ) → IsPrompt (synced files caller slot)
sync_prompt files caller slot = refused (is_bad_slot slot) Einval _ refl (given (handle_at files caller slot) Ebadf _ refl (λ ino. done _))

list_prompt : (files : Files) (path : List ℕ) → IsPrompt (listed files path)
list_prompt files path = sought (found files path) _ (found_prompt files path) (λ at. refused (not (is_dir at.kind)) Enotdir _ refl (done _))

stat_prompt : (files : Files) (path : List ℕ) → IsPrompt (told files path)
stat_prompt files path = sought (found files path) _ (found_prompt files path) (λ at. given (inode_at files.tree at.ino) Enoent _ refl (λ inode. done _))

readlink_prompt : (files : Files) (path : List ℕ) → IsPrompt (link_read files path)
readlink_prompt files path = sought (found files path) _ (found_prompt files path) (λ at. refused (not (is_symlink at.kind)) Einval _ refl (given (inode_at files.tree at.ino) Enoent _ refl (λ inode. done _)))

made_prompt : (files : Files) (now : ℕ) (path : List ℕ) (inode : Inode) → IsPrompt (made files now path inode)
made_prompt files now path inode =
    refused (has_long_name path) Enametoolong _ refl
    (sought (parent_of files.tree path) _ (parent_prompt files.tree path) (λ parent.
    refused (is_some (entry_at files.tree parent.ino (last_of (components path)))) Eexist _ refl
    (refused (is_dir inode.kind && is_linked_out (dir_links files.tree parent.ino)) Emlink _ refl
    (refused (nat_le inode_limit files.tree.highest) (Enfile Inodes inode_limit) _ refl (done _)))))

moved_prompt : (files : Files) (now : ℕ) (from : Entry) (dir : ℕ) (name : List ℕ) (over : Option Entry) → IsPrompt (moved files now from dir name over)
moved_prompt files now from dir name None = refused (comes_linked_out files from dir) Emlink _ refl (done _)
moved_prompt files now from dir name (Some over) =
    by (over.ino == from.ino) _
    (refused (is_dir from.kind && not (is_dir over.kind)) Enotdir _ refl
    (refused (not (is_dir from.kind) && is_dir over.kind) Eisdir _ refl
    (refused (is_dir over.kind && not (has_no_entry files.tree over.ino)) Enotempty _ refl
    (given (inode_at files.tree over.ino) Enoent _ refl (λ inode. done (Done, moving files from dir name (losing files over.ino now inode ∷ []) now))))))
  where
    by : (b : Bool) (next : Plan) → IsPrompt next → IsPrompt (if b then Ok (Done, []) else next)
    by true next rest = done (Done, [])
    by false next rest = rest

plan_prompt : (files : Files) (caller now : ℕ) (op : Op) → IsPrompt (plan_of files caller now op)
plan_prompt files caller now (Create path mode) = refused (is_bad_mode mode || not (is_name_path path)) Einval _ refl (made_prompt files now path (new_file mode now))
plan_prompt files caller now (Mkdir path mode) = refused (is_bad_mode mode || not (is_name_path path)) Einval _ refl (made_prompt files now path (new_dir mode now))
plan_prompt files caller now (Symlink path target) = refused (is_bad_target target || not (is_name_path path)) Einval _ refl (made_prompt files now path (new_symlink target now))
plan_prompt files caller now (Link old new) =
    refused (not (is_name_path old && is_name_path new)) Einval _ refl
    (refused (has_long_name old || has_long_name new) Enametoolong _ refl
    (sought (walked files.tree old) _ (walk_prompt files.tree old) (λ entry.
    refused (is_dir entry.kind) Eisdir _ refl
    (given (inode_at files.tree entry.ino) Enoent _ refl (λ inode.
    refused (is_linked_out inode.nlink) Emlink _ refl
    (sought (parent_of files.tree new) _ (parent_prompt files.tree new) (λ parent.
    refused (is_some (entry_at files.tree parent.ino (last_of (components new)))) Eexist _ refl (done _))))))))
plan_prompt files caller now (Unlink path) =
    refused (not (is_name_path path)) Einval _ refl
    (refused (has_long_name path) Enametoolong _ refl
    (sought (walked files.tree path) _ (walk_prompt files.tree path) (λ entry. refused (is_dir entry.kind) Eisdir _ refl (given (inode_at files.tree entry.ino) Enoent _ refl (λ inode. done _)))))
plan_prompt files caller now (Rmdir path) =
    refused (not (is_name_path path)) Einval _ refl
    (refused (has_long_name path) Enametoolong _ refl
    (sought (walked files.tree path) _ (walk_prompt files.tree path) (λ entry.
    refused (not (is_dir entry.kind)) Enotdir _ refl (refused (not (has_no_entry files.tree entry.ino)) Enotempty _ refl (given (inode_at files.tree entry.ino) Enoent _ refl (λ inode. done _))))))
plan_prompt files caller now (Rename old new) =
    refused (not (is_name_path old && is_name_path new)) Einval _ refl
    (refused (has_long_name old || has_long_name new) Enametoolong _ refl
    (sought (walked files.tree old) _ (walk_prompt files.tree old) (λ from.
    sought (parent_of files.tree new) _ (parent_prompt files.tree new) (λ parent.
    refused (is_under (components old) (components new)) Einval _ refl (moved_prompt files now from parent.ino (last_of (components new)) (entry_at files.tree parent.ino (last_of (components new))))))))
plan_prompt files caller now (Truncate slot size) =
    refused (is_bad_slot slot) Einval _ refl (given (handle_at files caller slot) Ebadf _ refl (λ ino. given (inode_at files.tree ino) Ebadf _ refl (λ inode. refused (nat_lt size_limit size) Efbig _ refl (done _))))
plan_prompt files caller now (Chmod path mode) = refused (is_bad_mode mode) Einval _ refl (sought (found files path) _ (found_prompt files path) (λ at. given (inode_at files.tree at.ino) Enoent _ refl (λ inode. done _)))
plan_prompt files caller now op = done (Done, [])

done_prompt : (files : Files) (plan : Plan) → IsPrompt plan → IsPrompt (done_by files plan)
done_prompt files (Err refusal) early = failed refusal (early.early refusal refl)
done_prompt files (Ok found) early = done _

prompt : (files : Files) (caller now : ℕ) (op : Op) → IsPrompt (outcome_of files caller now op)
prompt files caller now (OpenFile path slot) = opened_prompt files caller path slot
prompt files caller now (Close slot) = closed_prompt files caller slot
prompt files caller now (Read slot offs len) = read_prompt files caller slot offs len
prompt files caller now (Write slot offs len byte) = write_prompt files caller now slot offs len byte
prompt files caller now (Fsync slot) = sync_prompt files caller slot
prompt files caller now Flush = done (Done, files)
prompt files caller now (ListDir path) = list_prompt files path
prompt files caller now (Stat path) = stat_prompt files path
prompt files caller now (Readlink path) = readlink_prompt files path
prompt files caller now op = done_prompt files (plan_of files caller now op) (plan_prompt files caller now op)

pub plain_is_early : (files : Files) (caller now : ℕ) (op : Op) (refusal : Refusal) → outcome_of files caller now op ≡ Err refusal → is_late refusal ≡ false
plain_is_early files caller now op refusal e = (prompt files caller now op).early refusal e

-- the group of a plan has five changes at most
record IsFew (plan : Plan) : Type 0 where
  few : length (group_in plan) ≤ 5

few_done : (reply : Reply) (group : List Change) → length group ≤ 5 → IsFew (Ok (reply, group))
few_done reply group few = record { few = few }

few_refused : (b : Bool) (refusal : Refusal) (next : Plan) → IsFew next → IsFew (refuse b refusal next)
few_refused true refusal next rest = record { few = omega arith }
few_refused false refusal next rest = rest

few_sought : {A : Type 0} (x : Result A Refusal) (next : A → Plan) → ((a : A) → IsFew (next a)) → IsFew (with_found x next)
few_sought (Err e) next rest = record { few = omega arith }
few_sought (Ok a) next rest = rest a

few_given : {A : Type 0} (x : Option A) (refusal : Refusal) (next : A → Plan) → ((a : A) → IsFew (next a)) → IsFew (with_some x refusal next)
few_given None refusal next rest = record { few = omega arith }
few_given (Some a) refusal next rest = rest a

one_touched : (tree : Tree) (dir now : ℕ) (came gone : Share) → length (touching tree dir now came gone) ≤ 1
one_touched tree dir now came gone = by (inode_at tree dir)
  where
    by : (x : Option Inode) → length (option_map_or (λ inode. SetInode dir (touched now (counted came gone inode)) ∷ []) x []) ≤ 1
    by None = omega arith
    by (Some inode) = omega arith

made_few : (files : Files) (now : ℕ) (path : List ℕ) (inode : Inode) → IsFew (made files now path inode)
made_few files now path inode =
    few_refused (has_long_name path) Enametoolong _
    (few_sought (parent_of files.tree path) _ (λ parent.
    few_refused (is_some (entry_at files.tree parent.ino (last_of (components path)))) Eexist _
    (few_refused (is_dir inode.kind && is_linked_out (dir_links files.tree parent.ino)) Emlink _
    (few_refused (nat_le inode_limit files.tree.highest) (Enfile Inodes inode_limit) _
    (let one = one_touched files.tree parent.ino now (share_of (record { dir = parent.ino; name = last_of (components path); ino = files.tree.highest + 1; kind = inode.kind })) no_share in
    few_done _ _ (omega (arith, one)))))))

one_less : (files : Files) (entry : Entry) (inode : Inode) (now : ℕ) → length (removing files entry inode now) ≤ 5
one_less files entry inode now = let one = one_touched files.tree entry.dir now no_share (share_of entry) in omega (arith, one)

moving_few : (files : Files) (from : Entry) (dir : ℕ) (name : List ℕ) (lost : List Change) (now : ℕ) → length lost ≤ 1 → length (moving files from dir name lost now) ≤ 5
moving_few files from dir name lost now few = by (from.dir == dir)
  where
    here : Share → List Change
    here came = touching files.tree from.dir now came (share_of from)

    there : List Change
    there = touching files.tree dir now (coming (record from { dir = dir; name = name }) lost) no_share

    by : (b : Bool) → length (SetEntry (record from { dir = dir; name = name }) ∷ DropEntry from.dir from.name ∷ (lost ++ touching files.tree from.dir now (if b then coming (record from { dir = dir; name = name }) lost else no_share) (share_of from)
        ++ (if b then [] else touching files.tree dir now (coming (record from { dir = dir; name = name }) lost) no_share))) ≤ 5
    by true =
        let own = touching files.tree from.dir now (coming (record from { dir = dir; name = name }) lost) (share_of from) in
        let one = one_touched files.tree from.dir now (coming (record from { dir = dir; name = name }) lost) (share_of from) in
        let all = length-append (lost ++ own) [] in
        let front = length-append lost own in
        omega (arith, few, one, all, front)
    by false =
        let own = touching files.tree from.dir now no_share (share_of from) in
        let other = touching files.tree dir now (coming (record from { dir = dir; name = name }) lost) no_share in
        let one = one_touched files.tree from.dir now no_share (share_of from) in
        let two = one_touched files.tree dir now (coming (record from { dir = dir; name = name }) lost) no_share in
        let all = length-append (lost ++ own) other in
        let front = length-append lost own in
        omega (arith, few, one, two, all, front)

moved_few : (files : Files) (now : ℕ) (from : Entry) (dir : ℕ) (name : List ℕ) (over : Option Entry) → IsFew (moved files now from dir name over)
moved_few files now from dir name None = few_refused (comes_linked_out files from dir) Emlink _ (few_done _ _ (moving_few files from dir name [] now (omega arith)))
moved_few files now from dir name (Some over) =
    by (over.ino == from.ino) _
    (few_refused (is_dir from.kind && not (is_dir over.kind)) Enotdir _
    (few_refused (not (is_dir from.kind) && is_dir over.kind) Eisdir _
    (few_refused (is_dir over.kind && not (has_no_entry files.tree over.ino)) Enotempty _
    (few_given (inode_at files.tree over.ino) Enoent _ (λ inode. few_done Done (moving files from dir name (losing files over.ino now inode ∷ []) now) (moving_few files from dir name (losing files over.ino now inode ∷ []) now (omega arith)))))))
  where
    by : (b : Bool) (next : Plan) → IsFew next → IsFew (if b then Ok (Done, []) else next)
    by true next rest = few_done Done [] (omega arith)
    by false next rest = rest

plan_few : (files : Files) (caller now : ℕ) (op : Op) → is_truncate op ≡ false → IsFew (plan_of files caller now op)
plan_few files caller now (Create path mode) plain = few_refused (is_bad_mode mode || not (is_name_path path)) Einval _ (made_few files now path (new_file mode now))
plan_few files caller now (Mkdir path mode) plain = few_refused (is_bad_mode mode || not (is_name_path path)) Einval _ (made_few files now path (new_dir mode now))
plan_few files caller now (Symlink path target) plain = few_refused (is_bad_target target || not (is_name_path path)) Einval _ (made_few files now path (new_symlink target now))
plan_few files caller now (Link old new) plain =
    few_refused (not (is_name_path old && is_name_path new)) Einval _
    (few_refused (has_long_name old || has_long_name new) Enametoolong _
    (few_sought (walked files.tree old) _ (λ entry.
    few_refused (is_dir entry.kind) Eisdir _
    (few_given (inode_at files.tree entry.ino) Enoent _ (λ inode.
    few_refused (is_linked_out inode.nlink) Emlink _
    (few_sought (parent_of files.tree new) _ (λ parent.
    few_refused (is_some (entry_at files.tree parent.ino (last_of (components new)))) Eexist _
    (let one = one_touched files.tree parent.ino now (share_of (record entry { dir = parent.ino; name = last_of (components new) })) no_share in few_done _ _ (omega (arith, one))))))))))
plan_few files caller now (Unlink path) plain =
    few_refused (not (is_name_path path)) Einval _
    (few_refused (has_long_name path) Enametoolong _
    (few_sought (walked files.tree path) _ (λ entry. few_refused (is_dir entry.kind) Eisdir _ (few_given (inode_at files.tree entry.ino) Enoent _ (λ inode. few_done _ _ (one_less files entry inode now))))))
plan_few files caller now (Rmdir path) plain =
    few_refused (not (is_name_path path)) Einval _
    (few_refused (has_long_name path) Enametoolong _
    (few_sought (walked files.tree path) _ (λ entry.
    few_refused (not (is_dir entry.kind)) Enotdir _ (few_refused (not (has_no_entry files.tree entry.ino)) Enotempty _ (few_given (inode_at files.tree entry.ino) Enoent _ (λ inode. few_done _ _ (one_less files entry inode now)))))))
plan_few files caller now (Rename old new) plain =
    few_refused (not (is_name_path old && is_name_path new)) Einval _
    (few_refused (has_long_name old || has_long_name new) Enametoolong _
    (few_sought (walked files.tree old) _ (λ from.
    few_sought (parent_of files.tree new) _ (λ parent.
    few_refused (is_under (components old) (components new)) Einval _ (moved_few files now from parent.ino (last_of (components new)) (entry_at files.tree parent.ino (last_of (components new))))))))
plan_few files caller now (Truncate slot size) plain = absurd (false≢true (sym plain))
plan_few files caller now (Chmod path mode) plain = few_refused (is_bad_mode mode) Einval _ (few_sought (found files path) _ (λ at. few_given (inode_at files.tree at.ino) Enoent _ (λ inode. few_done _ _ (omega arith))))
plan_few files caller now op plain = few_done Done [] (omega arith)

group_is_short : (files : Files) (caller now : ℕ) (op : Op) → is_truncate op ≡ false → length (group_of files caller now op) ≤ 5
group_is_short files caller now op plain = (plan_few files caller now op plain).few

cut_nodes : (group : List Change) → (truncation_need group).nodes ≤ 5
cut_nodes [] = omega arith
cut_nodes (set ∷ []) = omega arith
cut_nodes (set ∷ cut ∷ rest) = omega arith

-- an operation asks for five nodes at most
pub asked_few : (files : Files) (caller now : ℕ) (op : Op) → nodes_asked files caller now op ≤ 5
asked_few files caller now (Truncate slot size) = cut_nodes (group_of files caller now (Truncate slot size))
asked_few files caller now op = group_is_short files caller now op refl

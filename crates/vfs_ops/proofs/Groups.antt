-- What the group of an operation on names does to inodes: those that are there keep kind and size, and one goes at most.
use Rattle.std.proofs.Common.{◌≡◌, ℕ, ◌+◌, ◌<◌, ◌⊎◌, inl, inr, Bool, true, false, cond, ◌&&◌, ◌||◌, not, List, [], ◌∷◌, ◌++◌, Option, Some, None, Ok, Err, refl, arith}
use Rattle.std.specs.Prelude.{◌==◌, nat_le, is_some}
use Rattle.std.specs.List.{AllByRecursion}
use Rattle.std.specs.Option.{option_map_or}
use Rattle.fs_model.specs.declared.change.Change.{Change}
use Rattle.fs_model.specs.declared.change.Change.TheVariants.{SetInode, SetEntry, DropEntry, SetBlock, CutBlocks, DropInode}
use Rattle.fs_model.specs.declared.inode.Inode.{Inode}
use Rattle.fs_model.specs.declared.inode.Entry.{Entry}
use Rattle.fs_model.specs.declared.op.Op.{Op}
use Rattle.fs_model.specs.declared.op.Op.TheVariants.{Create, Mkdir, Symlink, Link, Unlink, Rmdir, Rename, OpenFile, Close, Read, Write, Truncate, Fsync, Flush, List as ListDir, Stat, Readlink, Chmod}
use Rattle.fs_model.specs.declared.refusal.Refusal.{Refusal}
use Rattle.fs_model.specs.declared.refusal.Refusal.TheVariants.{Eexist, Enotdir, Eisdir, Enotempty, Enametoolong, Einval, Emlink, Enfile, Enoent}
use Rattle.fs_model.specs.declared.refusal.Table.TheVariants.{Inodes as InodeTable}
use Rattle.fs_model.specs.declared.reply.Reply.TheVariants.{Done, Ino}
use Rattle.fs_model.specs.Attributes.{found, mode_set}
use Rattle.fs_model.specs.declared.share.Share.{Share}
use Rattle.fs_model.specs.Directory.{counted, dir_links, has_no_entry, is_linked_out, no_share, share_of}
use Rattle.fs_model.specs.Files.{Tree, Files, inode_at, entry_at}
use Rattle.fs_model.specs.Links.{less_linked, linking, losing, removing, linked, unlinked, dir_removed}
use Rattle.fs_model.specs.Making.{inode_limit, is_bad_mode, is_bad_target, is_name_path, touched, touching, making, made, new_file, new_dir, new_symlink}
use Rattle.fs_model.specs.Need.{group_need, need_of}
use Rattle.fs_model.specs.Operation.{plan_of, group_of, outcome_of}
use Rattle.fs_model.specs.Orphan.{is_open}
use Rattle.fs_model.specs.Outcome.{Plan, done_by, group_in, refuse, with_found, with_some}
use Rattle.fs_model.specs.Path.{has_long_name, components, last_of, walked, parent_of, is_dir}
use Rattle.fs_model.specs.Rename.{is_under, moved, moving, coming, comes_linked_out, renamed}
use Rattle.buffered_files.specs.Follow.{KeepsSize, AreOfNames}
use Rattle.vfs_ops.specs.Operations.{is_of_names, class_of, LeavesOthers}
use Rattle.vfs_ops.proofs.Plans.{refuse_to, found_to, some_to}

-- an inode that is there keeps its kind and, unless it is a directory, its size, a new one has a number above all that were used, and no inode goes but this one
abbrev pub FitsNames : Tree → ℕ → Change → Type 0
FitsNames tree gone (SetInode ino inode) = ((old : Inode) × (inode_at tree ino ≡ Some old) × KeepsSize old inode) ⊎ (tree.highest < ino)
FitsNames tree gone (DropInode ino) = ino ≡ gone
FitsNames tree gone (SetBlock ino block bytes) = ⊥
FitsNames tree gone (CutBlocks ino old_size new_size) = ⊥
FitsNames tree gone (SetEntry entry) = Unit {0}
FitsNames tree gone (DropEntry dir name) = Unit {0}

pub record AreFitting (tree : Tree) (group : List Change) : Type 0 where
  pub gone : ℕ
  pub all : AllByRecursion (FitsNames tree gone) group

append : (tree : Tree) (gone : ℕ) (front back : List Change) → AllByRecursion (FitsNames tree gone) front → AllByRecursion (FitsNames tree gone) back → AllByRecursion (FitsNames tree gone) (front ++ back)
append tree gone [] back f b = b
append tree gone (change ∷ front) back f b = (f.0, append tree gone front back f.1 b)

touching_fits : (tree : Tree) (ino now gone : ℕ) (came went : Share) → AllByRecursion (FitsNames tree gone) (touching tree ino now came went)
touching_fits tree ino now gone came went = by (inode_at tree ino) refl
  where
    by : (at : Option Inode) → inode_at tree ino ≡ at → AllByRecursion (FitsNames tree gone) (option_map_or (λ inode. SetInode ino (touched now (counted came went inode)) ∷ []) at [])
    by None e = tt
    by (Some inode) e = (inl (inode, e, record { kind = refl; size = λ d. rw d refl }), tt)

losing_fits : (files : Files) (ino now : ℕ) (inode : Inode) → inode_at files.tree ino ≡ Some inode → FitsNames files.tree ino (losing files ino now inode)
losing_fits files ino now inode e = by (((less_linked now inode).nlink == 0) && not (is_open files ino))
  where
    by : (b : Bool) → FitsNames files.tree ino (cond b (DropInode ino) (SetInode ino (less_linked now inode)))
    by true = refl
    by false = inl (inode, e, record { kind = refl; size = λ d. refl })

making_fits : (tree : Tree) (dir : ℕ) (name : List ℕ) (inode : Inode) (now : ℕ) → AreFitting tree (making tree dir name inode now)
making_fits tree dir name inode now = record { gone = 0; all = (tt, (inr (omega arith), touching_fits tree dir now 0 (share_of (record { dir = dir; name = name; ino = tree.highest + 1; kind = inode.kind })) no_share)) }

linking_fits : (tree : Tree) (entry : Entry) (inode : Inode) (dir : ℕ) (name : List ℕ) (now : ℕ) → inode_at tree entry.ino ≡ Some inode → AreFitting tree (linking tree entry inode dir name now)
linking_fits tree entry inode dir name now e = record { gone = 0; all = (tt, (inl (inode, e, record { kind = refl; size = λ d. refl }), touching_fits tree dir now 0 (share_of (record entry { dir = dir; name = name })) no_share)) }

removing_fits : (files : Files) (entry : Entry) (inode : Inode) (now : ℕ) → inode_at files.tree entry.ino ≡ Some inode → AreFitting files.tree (removing files entry inode now)
removing_fits files entry inode now e = record { gone = entry.ino; all = (tt, (losing_fits files entry.ino now inode e, touching_fits files.tree entry.dir now entry.ino no_share (share_of entry))) }

moving_fits : (files : Files) (from : Entry) (dir : ℕ) (name : List ℕ) (lost : List Change) (now gone : ℕ) → AllByRecursion (FitsNames files.tree gone) lost → AreFitting files.tree (moving files from dir name lost now)
moving_fits files from dir name lost now gone h = record {
  gone = gone;
  all = (
    tt,
    (
      tt,
      append files.tree gone (lost ++ left) (cond (from.dir == dir) [] come) (append files.tree gone lost left h (touching_fits files.tree from.dir now gone first (share_of from))) (by (from.dir == dir)),
    ),
  );
}
  where
    came : Share
    came = coming (record from { dir = dir; name = name }) lost

    first : Share
    first = cond (from.dir == dir) came no_share

    left : List Change
    left = touching files.tree from.dir now first (share_of from)

    come : List Change
    come = touching files.tree dir now came no_share

    by : (b : Bool) → AllByRecursion (FitsNames files.tree gone) (cond b [] come)
    by true = tt
    by false = touching_fits files.tree dir now gone came no_share

-- a plan whose group fits
abbrev Fits : Files → Plan → Type 0
Fits files plan = AreFitting files.tree (group_in plan)

nothing : (files : Files) (e : Refusal) → Fits files (Err e)
nothing files e = record { gone = 0; all = tt }

made_fits : (files : Files) (now : ℕ) (path : List ℕ) (inode : Inode) → Fits files (made files now path inode)
made_fits files now path inode =
    let P : Plan → Type 0 = λ plan. Fits files plan in
    let tree : Tree = files.tree in
    let name = last_of (components path) in
    let last : Entry → Plan = λ parent. Ok (Ino (tree.highest + 1), making tree parent.ino name inode now) in
    let few : Entry → Plan = λ parent. refuse (nat_le inode_limit tree.highest) (Enfile InodeTable inode_limit) (last parent) in
    let room : Entry → Plan = λ parent. refuse (is_dir inode.kind && is_linked_out (dir_links tree parent.ino)) Emlink (few parent) in
    let free : Entry → Plan = λ parent. refuse (is_some (entry_at tree parent.ino name)) Eexist (room parent) in
    refuse_to P (has_long_name path) Enametoolong (with_found (parent_of tree path) free) (nothing files) (λ short.
    found_to P (parent_of tree path) free (nothing files) (λ parent up.
    refuse_to P (is_some (entry_at tree parent.ino name)) Eexist (room parent) (nothing files) (λ absent.
    refuse_to P (is_dir inode.kind && is_linked_out (dir_links tree parent.ino)) Emlink (few parent) (nothing files) (λ low.
    refuse_to P (nat_le inode_limit tree.highest) (Enfile InodeTable inode_limit) (last parent) (nothing files) (λ left.
    making_fits tree parent.ino name inode now)))))

linked_fits : (files : Files) (now : ℕ) (old new : List ℕ) → Fits files (linked files now old new)
linked_fits files now old new =
    let P : Plan → Type 0 = λ plan. Fits files plan in
    let tree : Tree = files.tree in
    let name = last_of (components new) in
    let last : Entry → Inode → Entry → Plan = λ entry inode parent. Ok (Done, linking tree entry inode parent.ino name now) in
    let free : Entry → Inode → Entry → Plan = λ entry inode parent. refuse (is_some (entry_at tree parent.ino name)) Eexist (last entry inode parent) in
    let above : Entry → Inode → Plan = λ entry inode. with_found (parent_of tree new) (free entry inode) in
    let few : Entry → Inode → Plan = λ entry inode. refuse (is_linked_out inode.nlink) Emlink (above entry inode) in
    let with_it : Entry → Plan = λ entry. with_some (inode_at tree entry.ino) Enoent (few entry) in
    let plain : Entry → Plan = λ entry. refuse (is_dir entry.kind) Eisdir (with_it entry) in
    refuse_to P (not (is_name_path old && is_name_path new)) Einval (refuse (has_long_name old || has_long_name new) Enametoolong (with_found (walked tree old) plain)) (nothing files) (λ good.
    refuse_to P (has_long_name old || has_long_name new) Enametoolong (with_found (walked tree old) plain) (nothing files) (λ short.
    found_to P (walked tree old) plain (nothing files) (λ entry at.
    refuse_to P (is_dir entry.kind) Eisdir (with_it entry) (nothing files) (λ file.
    some_to P (inode_at tree entry.ino) Enoent (few entry) (nothing files) (λ inode there.
    refuse_to P (is_linked_out inode.nlink) Emlink (above entry inode) (nothing files) (λ low.
    found_to P (parent_of tree new) (free entry inode) (nothing files) (λ parent up.
    refuse_to P (is_some (entry_at tree parent.ino name)) Eexist (last entry inode parent) (nothing files) (λ absent.
    linking_fits tree entry inode parent.ino name now there))))))))

unlinked_fits : (files : Files) (now : ℕ) (path : List ℕ) → Fits files (unlinked files now path)
unlinked_fits files now path =
    let P : Plan → Type 0 = λ plan. Fits files plan in
    let tree : Tree = files.tree in
    let last : Entry → Inode → Plan = λ entry inode. Ok (Done, removing files entry inode now) in
    let with_it : Entry → Plan = λ entry. with_some (inode_at tree entry.ino) Enoent (last entry) in
    let plain : Entry → Plan = λ entry. refuse (is_dir entry.kind) Eisdir (with_it entry) in
    refuse_to P (not (is_name_path path)) Einval (refuse (has_long_name path) Enametoolong (with_found (walked tree path) plain)) (nothing files) (λ good.
    refuse_to P (has_long_name path) Enametoolong (with_found (walked tree path) plain) (nothing files) (λ short.
    found_to P (walked tree path) plain (nothing files) (λ entry at.
    refuse_to P (is_dir entry.kind) Eisdir (with_it entry) (nothing files) (λ file.
    some_to P (inode_at tree entry.ino) Enoent (last entry) (nothing files) (λ inode there.
    removing_fits files entry inode now there)))))

dir_removed_fits : (files : Files) (now : ℕ) (path : List ℕ) → Fits files (dir_removed files now path)
dir_removed_fits files now path =
    let P : Plan → Type 0 = λ plan. Fits files plan in
    let tree : Tree = files.tree in
    let last : Entry → Inode → Plan = λ entry inode. Ok (Done, removing files entry inode now) in
    let with_it : Entry → Plan = λ entry. with_some (inode_at tree entry.ino) Enoent (last entry) in
    let empty : Entry → Plan = λ entry. refuse (not (has_no_entry tree entry.ino)) Enotempty (with_it entry) in
    let dir : Entry → Plan = λ entry. refuse (not (is_dir entry.kind)) Enotdir (empty entry) in
    refuse_to P (not (is_name_path path)) Einval (refuse (has_long_name path) Enametoolong (with_found (walked tree path) dir)) (nothing files) (λ good.
    refuse_to P (has_long_name path) Enametoolong (with_found (walked tree path) dir) (nothing files) (λ short.
    found_to P (walked tree path) dir (nothing files) (λ entry at.
    refuse_to P (not (is_dir entry.kind)) Enotdir (empty entry) (nothing files) (λ is.
    refuse_to P (not (has_no_entry tree entry.ino)) Enotempty (with_it entry) (nothing files) (λ free.
    some_to P (inode_at tree entry.ino) Enoent (last entry) (nothing files) (λ inode there.
    removing_fits files entry inode now there))))))

moved_fits : (files : Files) (now : ℕ) (from : Entry) (dir : ℕ) (name : List ℕ) (over : Option Entry) → Fits files (moved files now from dir name over)
moved_fits files now from dir name None =
    refuse_to (λ plan. Fits files plan) (comes_linked_out files from dir) Emlink (Ok (Done, moving files from dir name [] now)) (nothing files) (λ low. moving_fits files from dir name [] now 0 tt)
moved_fits files now from dir name (Some over) = by (over.ino == from.ino)
  where
    P : Plan → Type 0
    P plan = Fits files plan

    last : Inode → Plan
    last inode = Ok (Done, moving files from dir name (losing files over.ino now inode ∷ []) now)

    with_it : Plan
    with_it = with_some (inode_at files.tree over.ino) Enoent last

    third : Plan
    third = refuse (is_dir over.kind && not (has_no_entry files.tree over.ino)) Enotempty with_it

    second : Plan
    second = refuse (not (is_dir from.kind) && is_dir over.kind) Eisdir third

    by : (b : Bool) → P (cond b (Ok (Done, [])) (refuse (is_dir from.kind && not (is_dir over.kind)) Enotdir second))
    by true = record { gone = 0; all = tt }
    by false =
        refuse_to P (is_dir from.kind && not (is_dir over.kind)) Enotdir second (nothing files) (λ a.
        refuse_to P (not (is_dir from.kind) && is_dir over.kind) Eisdir third (nothing files) (λ b.
        refuse_to P (is_dir over.kind && not (has_no_entry files.tree over.ino)) Enotempty with_it (nothing files) (λ c.
        some_to P (inode_at files.tree over.ino) Enoent last (nothing files) (λ inode there.
        moving_fits files from dir name (losing files over.ino now inode ∷ []) now over.ino (losing_fits files over.ino now inode there, tt)))))

renamed_fits : (files : Files) (now : ℕ) (old new : List ℕ) → Fits files (renamed files now old new)
renamed_fits files now old new =
    let P : Plan → Type 0 = λ plan. Fits files plan in
    let tree : Tree = files.tree in
    let name = last_of (components new) in
    let last : Entry → Entry → Plan = λ from parent. moved files now from parent.ino name (entry_at tree parent.ino name) in
    let outside : Entry → Entry → Plan = λ from parent. refuse (is_under (components old) (components new)) Einval (last from parent) in
    let above : Entry → Plan = λ from. with_found (parent_of tree new) (outside from) in
    refuse_to P (not (is_name_path old && is_name_path new)) Einval (refuse (has_long_name old || has_long_name new) Enametoolong (with_found (walked tree old) above)) (nothing files) (λ good.
    refuse_to P (has_long_name old || has_long_name new) Enametoolong (with_found (walked tree old) above) (nothing files) (λ short.
    found_to P (walked tree old) above (nothing files) (λ from at.
    found_to P (parent_of tree new) (outside from) (nothing files) (λ parent up.
    refuse_to P (is_under (components old) (components new)) Einval (last from parent) (nothing files) (λ out.
    moved_fits files now from parent.ino name (entry_at tree parent.ino name))))))

mode_set_fits : (files : Files) (now : ℕ) (path : List ℕ) (mode : ℕ) → Fits files (mode_set files now path mode)
mode_set_fits files now path mode =
    let P : Plan → Type 0 = λ plan. Fits files plan in
    let tree : Tree = files.tree in
    let last : Entry → Inode → Plan = λ at inode. Ok (Done, SetInode at.ino (touched now (record inode { mode = mode })) ∷ []) in
    let with_it : Entry → Plan = λ at. with_some (inode_at tree at.ino) Enoent (last at) in
    refuse_to P (is_bad_mode mode) Einval (with_found (found files path) with_it) (nothing files) (λ good.
    found_to P (found files path) with_it (nothing files) (λ at is.
    some_to P (inode_at tree at.ino) Enoent (last at) (nothing files) (λ inode there.
    let new : Inode = touched now (record inode { mode = mode }) in
    record { gone = 0; all = (inl (inode, there, record { kind = refl; size = λ d. refl }), tt) })))

-- the group of an operation on names
pub group_fits : (files : Files) (caller now : ℕ) (op : Op) → is_of_names op ≡ true → AreFitting files.tree (group_of files caller now op)
group_fits files caller now (Create path mode) is =
    refuse_to (λ plan. Fits files plan) (is_bad_mode mode || not (is_name_path path)) Einval (made files now path (new_file mode now)) (nothing files) (λ good. made_fits files now path (new_file mode now))
group_fits files caller now (Mkdir path mode) is =
    refuse_to (λ plan. Fits files plan) (is_bad_mode mode || not (is_name_path path)) Einval (made files now path (new_dir mode now)) (nothing files) (λ good. made_fits files now path (new_dir mode now))
group_fits files caller now (Symlink path target) is =
    refuse_to (λ plan. Fits files plan) (is_bad_target target || not (is_name_path path)) Einval (made files now path (new_symlink target now)) (nothing files) (λ good. made_fits files now path (new_symlink target now))
group_fits files caller now (Link old new) is = linked_fits files now old new
group_fits files caller now (Unlink path) is = unlinked_fits files now path
group_fits files caller now (Rmdir path) is = dir_removed_fits files now path
group_fits files caller now (Rename old new) is = renamed_fits files now old new
group_fits files caller now (Chmod path mode) is = mode_set_fits files now path mode
group_fits files caller now (Truncate slot size) is = absurd cc
group_fits files caller now op is = record { gone = 0; all = tt }

-- what such an operation comes to is what its plan does
pub outcome_is : (files : Files) (caller now : ℕ) (op : Op) → is_of_names op ≡ true → outcome_of files caller now op ≡ done_by files (plan_of files caller now op)
outcome_is files caller now (OpenFile path slot) is = absurd cc
outcome_is files caller now (Close slot) is = absurd cc
outcome_is files caller now (Read slot offs len) is = absurd cc
outcome_is files caller now (Write slot offs len byte) is = absurd cc
outcome_is files caller now (Fsync slot) is = absurd cc
outcome_is files caller now Flush is = absurd cc
outcome_is files caller now (ListDir path) is = absurd cc
outcome_is files caller now (Stat path) is = absurd cc
outcome_is files caller now (Readlink path) is = absurd cc
outcome_is files caller now op is = refl

-- and what it asks for is what its group does
pub need_is : (files : Files) (caller now : ℕ) (op : Op) → is_of_names op ≡ true → group_need files.tree (group_of files caller now op) (class_of op) ≡ need_of files caller now op
need_is files caller now (Truncate slot size) is = absurd cc
need_is files caller now (Unlink path) is = refl
need_is files caller now (Rmdir path) is = refl
need_is files caller now op is = refl

-- no inode goes but the one
pub leaves : (tree : Tree) (gone : ℕ) (group : List Change) → AllByRecursion (FitsNames tree gone) group → AllByRecursion (LeavesOthers gone) group
leaves tree gone [] all = tt
leaves tree gone (SetInode ino inode ∷ group) all = (tt, leaves tree gone group all.1)
leaves tree gone (SetEntry entry ∷ group) all = (tt, leaves tree gone group all.1)
leaves tree gone (DropEntry dir name ∷ group) all = (tt, leaves tree gone group all.1)
leaves tree gone (SetBlock ino block bytes ∷ group) all = absurd all.0
leaves tree gone (CutBlocks ino old_size new_size ∷ group) all = absurd all.0
leaves tree gone (DropInode ino ∷ group) all = (all.0, leaves tree gone group all.1)

-- such a group is one of names
pub names_of : (tree : Tree) (gone : ℕ) (group : List Change) → AllByRecursion (FitsNames tree gone) group → AreOfNames tree group
names_of tree gone [] all = tt
names_of tree gone (SetInode ino inode ∷ group) all = (all.0, names_of tree gone group all.1)
names_of tree gone (SetEntry entry ∷ group) all = (tt, names_of tree gone group all.1)
names_of tree gone (DropEntry dir name ∷ group) all = (tt, names_of tree gone group all.1)
names_of tree gone (SetBlock ino block bytes ∷ group) all = absurd all.0
names_of tree gone (CutBlocks ino old_size new_size ∷ group) all = absurd all.0
names_of tree gone (DropInode ino ∷ group) all = (tt, names_of tree gone group all.1)

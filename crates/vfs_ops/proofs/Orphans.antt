-- Whether the group of an operation on names leaves an orphan.
use Rattle.std.proofs.Common.{◌≡◌, ℕ, ◌+◌, ◌-◌, ◌≤◌, ◌⊎◌, inl, inr, min, max, Bool, true, false, cond, ◌&&◌, ◌||◌, not, List, [], ◌∷◌, ◌++◌, length, length-append, Option, Some, None, Ok, Err, refl, sym, ap, subst, ◌∙◌, arith}
use Rattle.std.specs.Prelude.{◌==◌, nat_le, nat_lt, is_some, Result}
use Rattle.std.specs.List.{AllByRecursion}
use Rattle.std.specs.Option.{option_map_or}
use Rattle.std.proofs.lemmas.Bool.{false≢true, ltb-false}
use Rattle.std.proofs.lemmas.Bool.Decides.{eqb_tells, nat_tests}
use Rattle.fs_model.specs.declared.change.Change.{Change}
use Rattle.fs_model.specs.declared.change.Change.TheVariants.{SetInode, SetEntry, DropEntry, DropInode}
use Rattle.fs_model.specs.declared.inode.Inode.{Inode}
use Rattle.fs_model.specs.declared.inode.Entry.{Entry}
use Rattle.fs_model.specs.declared.op.Op.{Op}
use Rattle.fs_model.specs.declared.op.Op.TheVariants.{Create, Mkdir, Symlink, Link, Unlink, Rmdir, Rename, Truncate, Chmod}
use Rattle.fs_model.specs.declared.refusal.Refusal.{Refusal}
use Rattle.fs_model.specs.declared.refusal.Refusal.TheVariants.{Eexist, Enotdir, Eisdir, Enotempty, Enametoolong, Einval, Emlink, Enfile, Enoent}
use Rattle.fs_model.specs.declared.refusal.Table.TheVariants.{Inodes as InodeTable, Orphans as OrphanTable}
use Rattle.fs_model.specs.declared.reply.Reply.{Reply}
use Rattle.fs_model.specs.declared.reply.Reply.TheVariants.{Done, Ino}
use Rattle.fs_model.specs.Attributes.{found, mode_set}
use Rattle.fs_model.specs.Backing.{BackingState, FitsOrphans, Outlook, orphan_room}
use Rattle.fs_model.specs.Change.{apply}
use Rattle.fs_model.specs.declared.share.Share.{Share}
use Rattle.fs_model.specs.Directory.{counted, dir_links, has_no_entry, is_linked_out, no_share, share_of}
use Rattle.fs_model.specs.Files.{Tree, Files, inode_at, entry_at}
use Rattle.fs_model.specs.Links.{linking, losing, removing, linked, unlinked, dir_removed}
use Rattle.fs_model.specs.Making.{inode_limit, is_bad_mode, is_bad_target, is_name_path, touched, touching, making, made, new_file, new_dir, new_symlink}
use Rattle.fs_model.specs.Operation.{group_of, plan_of, outcome_of}
use Rattle.fs_model.specs.Orphan.{is_open, leaves_orphan, nameless, within_orphans}
use Rattle.fs_model.specs.Outcome.{Outcome, Plan, done_by, group_in, refuse, with_found, with_some}
use Rattle.fs_model.specs.Path.{is_path, has_long_name, components, last_of, walked, parent_of, is_dir}
use Rattle.fs_model.specs.Proper.{IsProper}
use Rattle.fs_model.specs.Rename.{is_under, moved, moving, coming, comes_linked_out, renamed}
use Rattle.fs_laws.specs.Sound.{IsSound}
use Rattle.buffered_files.specs.declared.kept.Kept.{Kept}
use Rattle.buffered_files.specs.Alike.{IsAlike}
use Rattle.buffered_files.specs.Present.{present}
use Rattle.vfs_plans.specs.Answers.{Looks}
use Rattle.vfs_plans.specs.Operations.{is_truncate}
use Rattle.vfs_ops.specs.Operations.{is_of_names, is_orphaned, orphans}
use Rattle.vfs_ops.proofs.Groups.{outcome_is}
use Rattle.vfs_ops.proofs.Named.{Stands, IsDirAt, stored_at, walked_stands, above_is_dir, parent_is_dir, has_link, never_open}
use Rattle.vfs_ops.proofs.Nameless.{Spares, Leaves, Tells, no_link_at, one_at_most, orphan_told}
use Rattle.vfs_ops.proofs.Plans.{refuse_to, found_to, some_to}
use Rattle.vfs_ops.proofs.Takes.{none_done}

append : (P : Change → Type 0) (front back : List Change) → AllByRecursion P front → AllByRecursion P back → AllByRecursion P (front ++ back)
append P [] back f b = b
append P (change ∷ front) back f b = (f.0, append P front back f.1 b)

and_false : (a b : Bool) → b ≡ false → (a && b) ≡ false
and_false true b h = h
and_false false b h = refl

-- an inode that is set with a link
linked_spares : (tree : Tree) (ino : ℕ) (inode : Inode) → (inode.nlink == 0) ≡ false → Spares tree.inodes (SetInode ino inode)
linked_spares tree ino inode h = (and_false (not (is_dir inode.kind)) (inode.nlink == 0) h, λ t. absurd (false≢true (sym h ∙ t)))

-- an inode that is set again with the links that it had
same_spares : (tree : Tree) (ino : ℕ) (old new : Inode) → inode_at tree ino ≡ Some old → new.nlink ≡ old.nlink → is_orphaned (SetInode ino new) ≡ false → Spares tree.inodes (SetInode ino new)
same_spares tree ino old new found links plain = (plain, λ t. rw found (subst (λ n. (n == 0) ≡ true) links t))

dir_not : (ino : ℕ) (inode : Inode) → is_dir inode.kind ≡ true → is_orphaned (SetInode ino inode) ≡ false
dir_not ino inode dir = rw dir refl

-- a directory whose entries change says a link
counted_links : (came gone : Share) (inode : Inode) → is_dir inode.kind ≡ true → ((counted came gone inode).nlink == 0) ≡ false
counted_links came gone inode dir = rw dir (some (min (inode.nlink + came.links) 4294967295 - gone.links))
  where
    some : (n : ℕ) → (max 1 n == 0) ≡ false
    some n = grind (arith, nat_tests)

touching_spares : (tree : Tree) (ino now : ℕ) (came gone : Share) → IsDirAt tree ino → AllByRecursion (Spares tree.inodes) (touching tree ino now came gone)
touching_spares tree ino now came gone dir = by (inode_at tree ino) refl
  where
    by : (at : Option Inode) → inode_at tree ino ≡ at → AllByRecursion (Spares tree.inodes) (option_map_or (λ inode. SetInode ino (touched now (counted came gone inode)) ∷ []) at [])
    by None e = tt
    by (Some inode) e = (linked_spares tree ino (touched now (counted came gone inode)) (counted_links came gone inode (dir inode e).dir), tt)

touching_leaves : (tree : Tree) (ino now left : ℕ) (came gone : Share) → IsDirAt tree ino → ((inode : Inode) → inode_at tree left ≡ Some inode → is_dir inode.kind ≡ false) → AllByRecursion (Leaves tree.inodes left) (touching tree ino now came gone)
touching_leaves tree ino now left came gone dir plain = by (inode_at tree ino) refl
  where
    by : (at : Option Inode) → inode_at tree ino ≡ at → AllByRecursion (Leaves tree.inodes left) (option_map_or (λ inode. SetInode ino (touched now (counted came gone inode)) ∷ []) at [])
    by None e = tt
    by (Some inode) e = (
      (
        λ t. absurd (false≢true (sym (dir_not ino (touched now (counted came gone inode)) (dir inode e).dir) ∙ t)),
        λ same. absurd (false≢true (sym (plain inode (subst (λ q. inode_at tree q ≡ Some inode) same e)) ∙ (dir inode e).dir)),
        λ z. let none = rw e at z in absurd (false≢true (sym (dir inode e).linked ∙ none)),
        λ t. absurd (false≢true (sym (counted_links came gone inode (dir inode e).dir) ∙ t)),
      ),
      tt,
    )

-- what becomes of an inode that loses a name and stays without one
record Left (tree : Tree) (ino : ℕ) (change : Change) : Type 0 where
  orphaned : is_orphaned change ≡ true
  named : no_link_at tree.inodes ino ≡ false
  leaves : Leaves tree.inodes ino change
  plain : (inode : Inode) → inode_at tree ino ≡ Some inode → is_dir inode.kind ≡ false

abbrev Loses : Tree → ℕ → Change → Type 0
Loses tree ino change = Spares tree.inodes change ⊎ Left tree ino change

losing_tells : (files : Files) (ino now : ℕ) (inode : Inode) → IsSound files → inode_at files.tree ino ≡ Some inode → (is_dir inode.kind ≡ false → (inode.nlink == 0) ≡ false) → Loses files.tree ino (losing files ino now inode)
losing_tells files ino now inode sound there links = by (is_dir inode.kind) refl
  where
    less : ℕ → Inode
    less n = touched now (record inode { nlink = n })

    dropped : (o : Bool) → is_open files ino ≡ o → is_dir inode.kind ≡ true → Loses files.tree ino (cond (not o) (DropInode ino) (SetInode ino (less 0)))
    dropped false e d = inl tt
    dropped true e d = absurd (false≢true (sym (never_open files.tree files.handles ino inode sound.handles there d) ∙ e))

    plainly : (b : Bool) → is_dir inode.kind ≡ false → (inode.nlink - 1 == 0) ≡ b → (o : Bool) → Loses files.tree ino (cond (b && not o) (DropInode ino) (SetInode ino (less (inode.nlink - 1))))
    plainly true d z false = inl tt
    plainly true d z true = inr (record {
      orphaned = rw (d, z) refl;
      named = rw there (links d);
      leaves = (λ t. refl, λ t. z, λ t. z, λ t. inl refl);
      plain = λ other found. let e : Some inode ≡ Some other = sym there ∙ found in let same : inode ≡ other = cc e in subst (λ (i : Inode). is_dir i.kind ≡ false) same d;
    })
    plainly false d z o = inl (linked_spares files.tree ino (less (inode.nlink - 1)) z)

    by : (d : Bool) → is_dir inode.kind ≡ d → Loses files.tree ino (cond ((cond d 0 (inode.nlink - 1) == 0) && not (is_open files ino)) (DropInode ino) (SetInode ino (less (cond d 0 (inode.nlink - 1)))))
    by true d = dropped (is_open files ino) refl d
    by false d = plainly (inode.nlink - 1 == 0) d refl (is_open files ino)

making_tells : (tree : Tree) (dir : ℕ) (name : List ℕ) (inode : Inode) (now : ℕ) → (inode.nlink == 0) ≡ false → IsDirAt tree dir → Tells tree.inodes (making tree dir name inode now)
making_tells tree dir name inode now links is = inl (tt, (linked_spares tree (tree.highest + 1) inode links, touching_spares tree dir now (share_of (record { dir = dir; name = name; ino = tree.highest + 1; kind = inode.kind })) no_share is))

linking_tells : (tree : Tree) (entry : Entry) (inode : Inode) (dir : ℕ) (name : List ℕ) (now : ℕ) → IsDirAt tree dir → Tells tree.inodes (linking tree entry inode dir name now)
linking_tells tree entry inode dir name now is =
    let more : (inode.nlink + 1 == 0) ≡ false = grind (arith, nat_tests) in
    inl (tt, (linked_spares tree entry.ino (touched now (record inode { nlink = inode.nlink + 1 })) more, touching_spares tree dir now (share_of (record entry { dir = dir; name = name })) no_share is))

removing_tells : (files : Files) (entry : Entry) (inode : Inode) (now : ℕ) → IsSound files → Stands files.tree entry → inode_at files.tree entry.ino ≡ Some inode → Tells files.tree.inodes (removing files entry inode now)
removing_tells files entry inode now sound stands there = by (losing files entry.ino now inode) (losing_tells files entry.ino now inode sound there (has_link files.tree entry inode sound.proper stands there))
  where
    above : IsDirAt files.tree entry.dir
    above = above_is_dir files.tree entry sound.proper stands

    by : (change : Change) → Loses files.tree entry.ino change → Tells files.tree.inodes (DropEntry entry.dir entry.name ∷ change ∷ touching files.tree entry.dir now no_share (share_of entry))
    by change (inl spares) = inl (tt, (spares, touching_spares files.tree entry.dir now no_share (share_of entry) above))
    by change (inr it) = inr (record { left = entry.ino; named = it.named; any = rw it.orphaned refl; all = (tt, (it.leaves, touching_leaves files.tree entry.dir now entry.ino no_share (share_of entry) above it.plain)) })

-- what is changed after the names of a move
abbrev moved_dirs : Files → Entry → ℕ → Share → ℕ → List Change → List Change
moved_dirs files from dir came now lost =
    lost ++ touching files.tree from.dir now (cond (from.dir == dir) came no_share) (share_of from) ++ cond (from.dir == dir) [] (touching files.tree dir now came no_share)

dirs_all : (P : Change → Type 0) (files : Files) (from : Entry) (dir : ℕ) (came : Share) (now : ℕ) (lost : List Change) → AllByRecursion P lost → ((c : Share) → AllByRecursion P (touching files.tree from.dir now c (share_of from))) → AllByRecursion P (touching files.tree dir now came no_share)
    → AllByRecursion P (moved_dirs files from dir came now lost)
dirs_all P files from dir came now lost l a d =
    let left : List Change = touching files.tree from.dir now (cond (from.dir == dir) came no_share) (share_of from) in
    append P (lost ++ left) (cond (from.dir == dir) [] (touching files.tree dir now came no_share)) (append P lost left l (a (cond (from.dir == dir) came no_share))) (by (from.dir == dir))
  where
    by : (b : Bool) → AllByRecursion P (cond b [] (touching files.tree dir now came no_share))
    by true = tt
    by false = d

moving_spares : (files : Files) (from : Entry) (dir : ℕ) (name : List ℕ) (lost : List Change) (now : ℕ) → IsDirAt files.tree from.dir → IsDirAt files.tree dir → AllByRecursion (Spares files.tree.inodes) lost → Tells files.tree.inodes (moving files from dir name lost now)
moving_spares files from dir name lost now above is all =
    let came : Share = coming (record from { dir = dir; name = name }) lost in
    inl (tt, (tt, dirs_all (Spares files.tree.inodes) files from dir came now lost all (λ c. touching_spares files.tree from.dir now c (share_of from) above) (touching_spares files.tree dir now came no_share is)))

moving_tells : (files : Files) (from : Entry) (dir : ℕ) (name : List ℕ) (ino : ℕ) (change : Change) (now : ℕ) → IsDirAt files.tree from.dir → IsDirAt files.tree dir → Loses files.tree ino change → Tells files.tree.inodes (moving files from dir name (change ∷ []) now)
moving_tells files from dir name ino change now above is (inl spares) = moving_spares files from dir name (change ∷ []) now above is (spares, tt)
moving_tells files from dir name ino change now above is (inr it) = inr (record {
  left = ino;
  named = it.named;
  any = rw it.orphaned refl;
  all = (
    tt,
    (
      tt,
      dirs_all (Leaves files.tree.inodes ino) files from dir no_share now (change ∷ []) (it.leaves, tt) (λ c. touching_leaves files.tree from.dir now ino c (share_of from) above it.plain)
          (touching_leaves files.tree dir now ino no_share no_share is it.plain),
    ),
  );
})

-- a reply that an operation on names or of a size gives: it tells no bytes, and isn't a refusal
abbrev pub is_brief : Reply → Bool
is_brief Done = true
is_brief (Ino ino) = true
is_brief reply = false

abbrev IsBrief : Plan → Type 0
IsBrief (Ok found) = is_brief found.0 ≡ true
IsBrief (Err refusal) = Unit {0}

-- a plan whose group tells so, and is short
pub record Told (files : Files) (plan : Plan) : Type 0 where
  pub tells : Tells files.tree.inodes (group_in plan)
  pub short : length (group_in plan) ≤ 5
  pub brief : IsBrief plan

nothing : (files : Files) (e : Refusal) → Told files (Err e)
nothing files e = record { tells = inl tt; short = omega arith; brief = tt }

-- a directory that changes is one node
touch_short : (tree : Tree) (dir now : ℕ) (came gone : Share) → length (touching tree dir now came gone) ≤ 1
touch_short tree dir now came gone = by (inode_at tree dir)
  where
    by : (o : Option Inode) → length (option_map_or (λ inode. SetInode dir (touched now (counted came gone inode)) ∷ []) o []) ≤ 1
    by (Some inode) = omega arith
    by None = omega arith

five_at_most : (a c : Change) (x y z : List Change) → length x ≤ 1 → length y ≤ 1 → length z ≤ 1 → length (a ∷ c ∷ (x ++ y ++ z)) ≤ 5
five_at_most a c x y z first second third = let p = length-append (x ++ y) z in let q = length-append x y in omega (arith, first, second, third, p, q)

moving_short : (files : Files) (from : Entry) (dir : ℕ) (name : List ℕ) (lost : List Change) (now : ℕ) → length lost ≤ 1 → length (moving files from dir name lost now) ≤ 5
moving_short files from dir name lost now few = by (from.dir == dir)
  where
    by : (b : Bool) → length (SetEntry (record from { dir = dir; name = name }) ∷ DropEntry from.dir from.name ∷ (lost ++ touching files.tree from.dir now (cond b (coming (record from { dir = dir; name = name }) lost) no_share) (share_of from)
        ++ (cond b [] (touching files.tree dir now (coming (record from { dir = dir; name = name }) lost) no_share)))) ≤ 5
    by true =
        five_at_most (SetEntry (record from { dir = dir; name = name })) (DropEntry from.dir from.name) lost (touching files.tree from.dir now (coming (record from { dir = dir; name = name }) lost) (share_of from)) [] few
        (touch_short files.tree from.dir now (coming (record from { dir = dir; name = name }) lost) (share_of from)) (omega arith)
    by false =
        five_at_most (SetEntry (record from { dir = dir; name = name })) (DropEntry from.dir from.name) lost (touching files.tree from.dir now no_share (share_of from)) (touching files.tree dir now (coming (record from { dir = dir; name = name }) lost) no_share) few
        (touch_short files.tree from.dir now no_share (share_of from)) (touch_short files.tree dir now (coming (record from { dir = dir; name = name }) lost) no_share)

made_told : (files : Files) (now : ℕ) (path : List ℕ) (inode : Inode) → IsProper files.tree → (inode.nlink == 0) ≡ false → Told files (made files now path inode)
made_told files now path inode proper links =
    let P : Plan → Type 0 = λ plan. Told files plan in
    let tree : Tree = files.tree in
    let name = last_of (components path) in
    let last : Entry → Plan = λ parent. Ok (Ino (tree.highest + 1), making tree parent.ino name inode now) in
    let few : Entry → Plan = λ parent. refuse (nat_le inode_limit tree.highest) (Enfile InodeTable inode_limit) (last parent) in
    let room : Entry → Plan = λ parent. refuse (is_dir inode.kind && is_linked_out (dir_links tree parent.ino)) Emlink (few parent) in
    let free : Entry → Plan = λ parent. refuse (is_some (entry_at tree parent.ino name)) Eexist (room parent) in
    refuse_to P (has_long_name path) Enametoolong (with_found (parent_of tree path) free) (nothing files) (λ short.
    found_to P (parent_of tree path) free (nothing files) (λ parent up.
    refuse_to P (is_some (entry_at tree parent.ino name)) Eexist (room parent) (nothing files) (λ absent.
    refuse_to P (is_dir inode.kind && is_linked_out (dir_links tree parent.ino)) Emlink (few parent) (nothing files) (λ low.
    refuse_to P (nat_le inode_limit tree.highest) (Enfile InodeTable inode_limit) (last parent) (nothing files) (λ left.
    record {
      tells = making_tells tree parent.ino name inode now links (parent_is_dir tree path parent proper up);
      short = let one = touch_short tree parent.ino now (share_of (record { dir = parent.ino; name = name; ino = tree.highest + 1; kind = inode.kind })) no_share in omega (arith, one);
      brief = refl;
    })))))

linked_told : (files : Files) (now : ℕ) (old new : List ℕ) → IsProper files.tree → Told files (linked files now old new)
linked_told files now old new proper =
    let P : Plan → Type 0 = λ plan. Told files plan in
    let tree : Tree = files.tree in
    let name = last_of (components new) in
    let last : Entry → Inode → Entry → Plan = λ entry inode parent. Ok (Done, linking tree entry inode parent.ino name now) in
    let free : Entry → Inode → Entry → Plan = λ entry inode parent. refuse (is_some (entry_at tree parent.ino name)) Eexist (last entry inode parent) in
    let above : Entry → Inode → Plan = λ entry inode. with_found (parent_of tree new) (free entry inode) in
    let few : Entry → Inode → Plan = λ entry inode. refuse (is_linked_out inode.nlink) Emlink (above entry inode) in
    let with_it : Entry → Plan = λ entry. with_some (inode_at tree entry.ino) Enoent (few entry) in
    let plain : Entry → Plan = λ entry. refuse (is_dir entry.kind) Eisdir (with_it entry) in
    refuse_to P (not (is_name_path old && is_name_path new)) Einval (refuse (has_long_name old || has_long_name new) Enametoolong (with_found (walked tree old) plain)) (nothing files) (λ good.
    refuse_to P (has_long_name old || has_long_name new) Enametoolong (with_found (walked tree old) plain) (nothing files) (λ short.
    found_to P (walked tree old) plain (nothing files) (λ entry at.
    refuse_to P (is_dir entry.kind) Eisdir (with_it entry) (nothing files) (λ file.
    some_to P (inode_at tree entry.ino) Enoent (few entry) (nothing files) (λ inode there.
    refuse_to P (is_linked_out inode.nlink) Emlink (above entry inode) (nothing files) (λ low.
    found_to P (parent_of tree new) (free entry inode) (nothing files) (λ parent up.
    refuse_to P (is_some (entry_at tree parent.ino name)) Eexist (last entry inode parent) (nothing files) (λ absent.
    record {
      tells = linking_tells tree entry inode parent.ino name now (parent_is_dir tree new parent proper up);
      short = let one = touch_short tree parent.ino now (share_of (record entry { dir = parent.ino; name = name })) no_share in omega (arith, one);
      brief = refl;
    }))))))))

unlinked_told : (files : Files) (now : ℕ) (path : List ℕ) → IsSound files → Told files (unlinked files now path)
unlinked_told files now path sound =
    let P : Plan → Type 0 = λ plan. Told files plan in
    let tree : Tree = files.tree in
    let last : Entry → Inode → Plan = λ entry inode. Ok (Done, removing files entry inode now) in
    let with_it : Entry → Plan = λ entry. with_some (inode_at tree entry.ino) Enoent (last entry) in
    let plain : Entry → Plan = λ entry. refuse (is_dir entry.kind) Eisdir (with_it entry) in
    refuse_to P (not (is_name_path path)) Einval (refuse (has_long_name path) Enametoolong (with_found (walked tree path) plain)) (nothing files) (λ good.
    refuse_to P (has_long_name path) Enametoolong (with_found (walked tree path) plain) (nothing files) (λ short.
    found_to P (walked tree path) plain (nothing files) (λ entry at.
    refuse_to P (is_dir entry.kind) Eisdir (with_it entry) (nothing files) (λ file.
    some_to P (inode_at tree entry.ino) Enoent (last entry) (nothing files) (λ inode there.
    record {
      tells = removing_tells files entry inode now sound (walked_stands tree path entry at) there;
      short = let one = touch_short tree entry.dir now no_share (share_of entry) in omega (arith, one);
      brief = refl;
    })))))

dir_removed_told : (files : Files) (now : ℕ) (path : List ℕ) → IsSound files → Told files (dir_removed files now path)
dir_removed_told files now path sound =
    let P : Plan → Type 0 = λ plan. Told files plan in
    let tree : Tree = files.tree in
    let last : Entry → Inode → Plan = λ entry inode. Ok (Done, removing files entry inode now) in
    let with_it : Entry → Plan = λ entry. with_some (inode_at tree entry.ino) Enoent (last entry) in
    let empty : Entry → Plan = λ entry. refuse (not (has_no_entry tree entry.ino)) Enotempty (with_it entry) in
    let dir : Entry → Plan = λ entry. refuse (not (is_dir entry.kind)) Enotdir (empty entry) in
    refuse_to P (not (is_name_path path)) Einval (refuse (has_long_name path) Enametoolong (with_found (walked tree path) dir)) (nothing files) (λ good.
    refuse_to P (has_long_name path) Enametoolong (with_found (walked tree path) dir) (nothing files) (λ short.
    found_to P (walked tree path) dir (nothing files) (λ entry at.
    refuse_to P (not (is_dir entry.kind)) Enotdir (empty entry) (nothing files) (λ is.
    refuse_to P (not (has_no_entry tree entry.ino)) Enotempty (with_it entry) (nothing files) (λ free.
    some_to P (inode_at tree entry.ino) Enoent (last entry) (nothing files) (λ inode there.
    record {
      tells = removing_tells files entry inode now sound (walked_stands tree path entry at) there;
      short = let one = touch_short tree entry.dir now no_share (share_of entry) in omega (arith, one);
      brief = refl;
    }))))))

moved_told : (files : Files) (now : ℕ) (from : Entry) (dir : ℕ) (name : List ℕ) (at : Option Entry) → IsSound files → IsDirAt files.tree from.dir → IsDirAt files.tree dir → ((over : Entry) → at ≡ Some over → Stands files.tree over) → Told files (moved files now from dir name at)
moved_told files now from dir name None sound above is stands =
    refuse_to (λ plan. Told files plan) (comes_linked_out files from dir) Emlink (Ok (Done, moving files from dir name [] now)) (nothing files) (λ low. record { tells = moving_spares files from dir name [] now above is tt; short = moving_short files from dir name [] now (omega arith); brief = refl })
moved_told files now from dir name (Some over) sound above is stands = by (over.ino == from.ino)
  where
    P : Plan → Type 0
    P plan = Told files plan

    last : Inode → Plan
    last inode = Ok (Done, moving files from dir name (losing files over.ino now inode ∷ []) now)

    with_it : Plan
    with_it = with_some (inode_at files.tree over.ino) Enoent last

    third : Plan
    third = refuse (is_dir over.kind && not (has_no_entry files.tree over.ino)) Enotempty with_it

    second : Plan
    second = refuse (not (is_dir from.kind) && is_dir over.kind) Eisdir third

    by : (b : Bool) → P (cond b (Ok (Done, [])) (refuse (is_dir from.kind && not (is_dir over.kind)) Enotdir second))
    by true = record { tells = inl tt; short = omega arith; brief = refl }
    by false =
        refuse_to P (is_dir from.kind && not (is_dir over.kind)) Enotdir second (nothing files) (λ a.
        refuse_to P (not (is_dir from.kind) && is_dir over.kind) Eisdir third (nothing files) (λ b.
        refuse_to P (is_dir over.kind && not (has_no_entry files.tree over.ino)) Enotempty with_it (nothing files) (λ c.
        some_to P (inode_at files.tree over.ino) Enoent last (nothing files) (λ inode there.
        record {
          tells = moving_tells files from dir name over.ino (losing files over.ino now inode) now above is (losing_tells files over.ino now inode sound there (has_link files.tree over inode sound.proper (stands over refl) there));
          short = moving_short files from dir name (losing files over.ino now inode ∷ []) now (omega arith);
          brief = refl;
        }))))

renamed_told : (files : Files) (now : ℕ) (old new : List ℕ) → IsSound files → Told files (renamed files now old new)
renamed_told files now old new sound =
    let P : Plan → Type 0 = λ plan. Told files plan in
    let tree : Tree = files.tree in
    let name = last_of (components new) in
    let last : Entry → Entry → Plan = λ from parent. moved files now from parent.ino name (entry_at tree parent.ino name) in
    let outside : Entry → Entry → Plan = λ from parent. refuse (is_under (components old) (components new)) Einval (last from parent) in
    let above : Entry → Plan = λ from. with_found (parent_of tree new) (outside from) in
    refuse_to P (not (is_name_path old && is_name_path new)) Einval (refuse (has_long_name old || has_long_name new) Enametoolong (with_found (walked tree old) above)) (nothing files) (λ good.
    refuse_to P (has_long_name old || has_long_name new) Enametoolong (with_found (walked tree old) above) (nothing files) (λ short.
    found_to P (walked tree old) above (nothing files) (λ from at.
    found_to P (parent_of tree new) (outside from) (nothing files) (λ parent up.
    refuse_to P (is_under (components old) (components new)) Einval (last from parent) (nothing files) (λ out.
    moved_told files now from parent.ino name (entry_at tree parent.ino name) sound (above_is_dir tree from sound.proper (walked_stands tree old from at)) (parent_is_dir tree new parent sound.proper up) (stored_at tree parent.ino name))))))

not_refused : {A : Type 0} (b : Bool) (refusal : Refusal) (next : Result A Refusal) (a : A) → refuse b refusal next ≡ Ok a → next ≡ Ok a
not_refused true refusal next a h = absurd cc
not_refused false refusal next a h = h

mode_spares : (tree : Tree) (at : Entry) (inode : Inode) (now mode : ℕ) → IsProper tree → Stands tree at → inode_at tree at.ino ≡ Some inode → Spares tree.inodes (SetInode at.ino (touched now (record inode { mode = mode })))
mode_spares tree at inode now mode proper stands there = same_spares tree at.ino inode (touched now (record inode { mode = mode })) there refl (by (is_dir inode.kind) refl)
  where
    by : (d : Bool) → is_dir inode.kind ≡ d → (not d && (inode.nlink == 0)) ≡ false
    by true e = refl
    by false e = has_link tree at inode proper stands there e

mode_set_told : (files : Files) (now : ℕ) (path : List ℕ) (mode : ℕ) → IsProper files.tree → Told files (mode_set files now path mode)
mode_set_told files now path mode proper =
    let P : Plan → Type 0 = λ plan. Told files plan in
    let tree : Tree = files.tree in
    let last : Entry → Inode → Plan = λ at inode. Ok (Done, SetInode at.ino (touched now (record inode { mode = mode })) ∷ []) in
    let with_it : Entry → Plan = λ at. with_some (inode_at tree at.ino) Enoent (last at) in
    refuse_to P (is_bad_mode mode) Einval (with_found (found files path) with_it) (nothing files) (λ good.
    found_to P (found files path) with_it (nothing files) (λ at is.
    some_to P (inode_at tree at.ino) Enoent (last at) (nothing files) (λ inode there.
    let short : refuse (has_long_name path) Enametoolong (walked tree path) ≡ Ok at = not_refused (not (is_path path)) Einval (refuse (has_long_name path) Enametoolong (walked tree path)) at is in
    let leads : walked tree path ≡ Ok at = not_refused (has_long_name path) Enametoolong (walked tree path) at short in
    record { tells = inl (mode_spares tree at inode now mode proper (walked_stands tree path at leads) there, tt); short = omega arith; brief = refl })))

-- the group of an operation on names
group_told : (files : Files) (caller now : ℕ) (op : Op) → IsSound files → is_of_names op ≡ true → Told files (plan_of files caller now op)
group_told files caller now (Create path mode) sound is =
    refuse_to (λ plan. Told files plan) (is_bad_mode mode || not (is_name_path path)) Einval (made files now path (new_file mode now)) (nothing files) (λ good. made_told files now path (new_file mode now) sound.proper refl)
group_told files caller now (Mkdir path mode) sound is =
    refuse_to (λ plan. Told files plan) (is_bad_mode mode || not (is_name_path path)) Einval (made files now path (new_dir mode now)) (nothing files) (λ good. made_told files now path (new_dir mode now) sound.proper refl)
group_told files caller now (Symlink path target) sound is =
    refuse_to (λ plan. Told files plan) (is_bad_target target || not (is_name_path path)) Einval (made files now path (new_symlink target now)) (nothing files) (λ good. made_told files now path (new_symlink target now) sound.proper refl)
group_told files caller now (Link old new) sound is = linked_told files now old new sound.proper
group_told files caller now (Unlink path) sound is = unlinked_told files now path sound
group_told files caller now (Rmdir path) sound is = dir_removed_told files now path sound
group_told files caller now (Rename old new) sound is = renamed_told files now old new sound
group_told files caller now (Chmod path mode) sound is = mode_set_told files now path mode sound.proper
group_told files caller now (Truncate slot size) sound is = absurd cc
group_told files caller now op sound is = absurd (false≢true is)

pub told_of : (files : Files) (caller now : ℕ) (op : Op) (reply : Reply) (group : List Change) → IsSound files → is_of_names op ≡ true → plan_of files caller now op ≡ Ok (reply, group) → Told files (Ok (reply, group))
told_of files caller now op reply group sound is found = subst (λ (plan : Plan). Told files plan) found (group_told files caller now op sound is)

-- an operation on names puts five nodes at most
pub names_short : (files : Files) (caller now : ℕ) (op : Op) → IsSound files → is_of_names op ≡ true → length (group_of files caller now op) ≤ 5
names_short files caller now op sound is = (group_told files caller now op sound is).short

abbrev value_or : Reply × Files → Outcome → Reply × Files
value_or other (Ok done) = done
value_or other (Err refusal) = other

-- what it answers tells no bytes and no refusal, and one inode at most loses its last name
pub record OnNames (files : Files) (reply : Reply) (after : Files) : Type 0 where
  pub brief : is_brief reply ≡ true
  pub one : length (nameless after.tree) ≤ length (nameless files.tree) + 1

pub on_names : (room limit : ℕ) (files : Files) (caller now : ℕ) (op : Op) (reply : Reply) (after : Files) → IsSound files → is_of_names op ≡ true → within_orphans room limit files (outcome_of files caller now op) ≡ Ok (reply, after) → OnNames files reply after
on_names room limit files caller now op reply after sound is done =
    let out : within_orphans room limit files (done_by files (plan_of files caller now op)) ≡ Ok (reply, after) = ap (λ outcome. within_orphans room limit files outcome) (sym (outcome_is files caller now op is)) ∙ done in
    by (plan_of files caller now op) (group_told files caller now op sound is) out
  where
    by : (plan : Plan) → Told files plan → within_orphans room limit files (done_by files plan) ≡ Ok (reply, after) → OnNames files reply after
    by (Err refusal) told e = absurd cc
    by (Ok plain) told e =
        let made : Files = record files { tree = apply files.tree plain.1 } in
        let free : Ok (plain.0, made) ≡ Ok (reply, after) = not_refused ((room == 0) && leaves_orphan files made) (Enfile OrphanTable limit) (Ok (plain.0, made)) (reply, after) e in
        let pair : (plain.0, made) ≡ (reply, after) = ap (λ (o : Outcome). value_or (reply, after) o) free in
        let same : plain.0 ≡ reply = ap (λ (p : Reply × Files). p.0) pair in
        let last : made ≡ after = ap (λ (p : Reply × Files). p.1) pair in
        record {
          brief = subst (λ r. is_brief r ≡ true) same told.brief;
          one = subst (λ (f : Files). length (nameless f.tree) ≤ length (nameless files.tree) + 1) last (one_at_most files plain.1 sound.proper told.tells);
        }

pub names_answer : (files : Files) (caller now : ℕ) (op : Op) (reply : Reply) (after : Files) → IsSound files → is_of_names op ≡ true → outcome_of files caller now op ≡ Ok (reply, after) → is_brief reply ≡ true
names_answer files caller now op reply after sound is done = (on_names 1 0 files caller now op reply after sound is (ap (λ (o : Outcome). within_orphans 1 0 files o) done)).brief

-- an operation on names leaves an orphan where its group does
pub orphans_told : (files : Files) (caller now : ℕ) (op : Op) (reply : Reply) (group : List Change) → IsSound files → is_of_names op ≡ true → plan_of files caller now op ≡ Ok (reply, group) → leaves_orphan files (record files { tree = apply files.tree group }) ≡ orphans group
orphans_told files caller now op reply group sound is found = orphan_told files group sound.proper (told_of files caller now op reply group sound is found).tells

-- what such an operation comes to where so many more orphans can be told of
within_is : (room limit : ℕ) (files : Files) (caller now : ℕ) (op : Op) (reply : Reply) (group : List Change) → IsSound files → is_of_names op ≡ true → plan_of files caller now op ≡ Ok (reply, group)
    → within_orphans room limit files (outcome_of files caller now op) ≡ refuse ((room == 0) && orphans group) (Enfile OrphanTable limit) (Ok (reply, record files { tree = apply files.tree group }))
within_is room limit files caller now op reply group sound is found =
    let after : Files = record files { tree = apply files.tree group } in
    let out : outcome_of files caller now op ≡ Ok (reply, after) = outcome_is files caller now op is ∙ ap (λ plan. done_by files plan) found in
    ap (λ outcome. within_orphans room limit files outcome) out ∙ ap (λ b. refuse ((room == 0) && b) (Enfile OrphanTable limit) (Ok (reply, after))) (orphans_told files caller now op reply group sound is found)

-- it is done where no orphan is left, or one more can be told of
pub within_done : (room limit : ℕ) (files : Files) (caller now : ℕ) (op : Op) (reply : Reply) (group : List Change) → IsSound files → is_of_names op ≡ true → plan_of files caller now op ≡ Ok (reply, group) → ((room == 0) && orphans group) ≡ false
    → within_orphans room limit files (outcome_of files caller now op) ≡ Ok (reply, record files { tree = apply files.tree group })
within_done room limit files caller now op reply group sound is found free =
    within_is room limit files caller now op reply group sound is found ∙ ap (λ b. refuse b (Enfile OrphanTable limit) (Ok (reply, record files { tree = apply files.tree group }))) free

-- an empty group leaves the files, and no orphan
pub within_none : (room limit : ℕ) (files : Files) (caller now : ℕ) (op : Op) (reply : Reply) (group : List Change) → is_of_names op ≡ true → plan_of files caller now op ≡ Ok (reply, group) → (length group == 0) ≡ true
    → within_orphans room limit files (outcome_of files caller now op) ≡ Ok (reply, files)
within_none room limit files caller now op reply group is found none =
    let same : leaves_orphan files files ≡ false = grind (arith, nat_tests) in
    let out : within_orphans room limit files (outcome_of files caller now op) ≡ within_orphans room limit files (Ok (reply, files)) = ap (λ outcome. within_orphans room limit files outcome) (none_done files caller now op reply group is found none) in
    out ∙ ap (λ b. refuse b (Enfile OrphanTable limit) (Ok (reply, files))) (and_false (room == 0) (leaves_orphan files files) same)

-- and it is refused where the list is full
pub within_full : (room limit : ℕ) (files : Files) (caller now : ℕ) (op : Op) (reply : Reply) (group : List Change) → IsSound files → is_of_names op ≡ true → plan_of files caller now op ≡ Ok (reply, group) → ((room == 0) && orphans group) ≡ true
    → within_orphans room limit files (outcome_of files caller now op) ≡ Err (Enfile OrphanTable limit)
within_full room limit files caller now op reply group sound is found full =
    within_is room limit files caller now op reply group sound is found ∙ ap (λ b. refuse b (Enfile OrphanTable limit) (Ok (reply, record files { tree = apply files.tree group }))) full

-- what callers see once the group was put is what the operation comes to
pub done_alike : (room limit : ℕ) (t tree : Tree) (kept : Kept) (caller now : ℕ) (op : Op) (reply : Reply) (group : List Change) (b : Files) → IsSound (present tree kept) → is_of_names op ≡ true → t ≡ tree → plan_of (present tree kept) caller now op ≡ Ok (reply, group)
    → ((room == 0) && orphans group) ≡ false → IsAlike (record (present t kept) { tree = apply (present t kept).tree group }) b
    → (after : Files) × (within_orphans room limit (present tree kept) (outcome_of (present tree kept) caller now op) ≡ Ok (reply, after)) × IsAlike after b
done_alike room limit t tree kept caller now op reply group b sound is same found free alike =
    let files : Files = present tree kept in
    let seen : IsAlike (record files { tree = apply files.tree group }) b = subst (λ s. IsAlike (record (present s kept) { tree = apply (present s kept).tree group }) b) same alike in
    (record files { tree = apply files.tree group }, within_done room limit files caller now op reply group sound is found free, seen)

-- a look leaves the room for orphans
pub orphan_room_on : {x y : Outlook} {a b : BackingState} → Looks x y a b → orphan_room b ≡ orphan_room a
orphan_room_on looks = ap orphan_room looks.reads

-- and how many there may be
pub orphan_limit_on : {x y : Outlook} {a b : BackingState} → Looks x y a b → b.orphan_limit ≡ a.orphan_limit
orphan_limit_on looks = ap (λ s. s.orphan_limit) looks.reads

-- and how many were closed
pub closed_on : {x y : Outlook} {a b : BackingState} → Looks x y a b → b.closed ≡ a.closed
closed_on looks = ap (λ s. s.closed) looks.reads

-- the list of orphans has room for the group of an operation that isn't refused for want of it
pub orphans_fit : (files : Files) (caller now : ℕ) (op : Op) (reply : Reply) (group : List Change) (room closed limit : ℕ) → IsSound files → is_of_names op ≡ true → plan_of files caller now op ≡ Ok (reply, group)
    → room ≡ limit - (length (nameless files.tree) + closed) → ((room == 0) && orphans group) ≡ false → FitsOrphans files.tree closed limit group
orphans_fit files caller now op reply group room closed limit sound is found same free =
    let tells : Tells files.tree.inodes group = (told_of files caller now op reply group sound is found).tells in
    by (orphans group) (orphans_told files caller now op reply group sound is found) free (one_at_most files group sound.proper tells)
  where
    by : (b : Bool) → nat_lt (length (nameless files.tree)) (length (nameless (apply files.tree group))) ≡ b → ((room == 0) && b) ≡ false → length (nameless (apply files.tree group)) ≤ length (nameless files.tree) + 1 → FitsOrphans files.tree closed limit group
    by false few none most = inl (ltb-false (length (nameless files.tree)) (length (nameless (apply files.tree group))) few)
    by true more none most = elim (eqb_tells room 0) [
      | inl zero_room ↦ absurd (false≢true (sym none ∙ rw zero_room.0 refl))
      | inr some ↦ (let left = some.1 in inr (omega (arith, same, left, most)))
    ]

-- an operation puts five nodes at most
pub all_short : (files : Files) (caller now : ℕ) (op : Op) → IsSound files → is_truncate op ≡ false → length (group_of files caller now op) ≤ 5
all_short files caller now (Create path mode) sound plain = names_short files caller now (Create path mode) sound refl
all_short files caller now (Mkdir path mode) sound plain = names_short files caller now (Mkdir path mode) sound refl
all_short files caller now (Symlink path target) sound plain = names_short files caller now (Symlink path target) sound refl
all_short files caller now (Link a b) sound plain = names_short files caller now (Link a b) sound refl
all_short files caller now (Unlink path) sound plain = names_short files caller now (Unlink path) sound refl
all_short files caller now (Rmdir path) sound plain = names_short files caller now (Rmdir path) sound refl
all_short files caller now (Rename a b) sound plain = names_short files caller now (Rename a b) sound refl
all_short files caller now (Chmod path mode) sound plain = names_short files caller now (Chmod path mode) sound refl
all_short files caller now (Truncate slot size) sound plain = absurd (false≢true (sym plain))
all_short files caller now op sound plain = omega arith

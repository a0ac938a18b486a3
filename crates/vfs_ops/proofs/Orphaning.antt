-- The next list of orphans over a step.
use Rattle.std.proofs.Common.{◌≡◌, ℕ, ◌+◌, ◌≤◌, ◌||◌, Bool, true, false, cond, inl, inr, List, Ok, Err, length, refl, sym, ap, subst, arith, Result, IfOk}
use Rattle.std.specs.Prelude.{◌==◌, OnErr, filter, if◌then◌else◌, nat_lt}
use Rattle.std.specs.Map.{keys_of}
use Rattle.std.proofs.lemmas.Bool.{ltb-false}
use Rattle.fs_model.specs.declared.inode.Inode.{Inode}
use Rattle.fs_model.specs.declared.op.Op.{Op}
use Rattle.fs_model.specs.declared.op.Op.TheVariants.{Write}
use Rattle.fs_model.specs.declared.refusal.Refusal.{Refusal}
use Rattle.fs_model.specs.declared.refusal.Refusal.TheVariants.{Einval, Efbig, Ebadf}
use Rattle.fs_model.specs.declared.reply.Reply.{Reply}
use Rattle.fs_model.specs.declared.reply.Reply.TheVariants.{Count}
use Rattle.fs_model.specs.declared.change.Change.{Change}
use Rattle.fs_model.specs.Backing.{BackingState, FitsOrphans, Outlook, next_orphans, orphan_room}
use Rattle.fs_model.specs.Change.{apply}
use Rattle.fs_model.specs.Files.{Files, handle_at, inode_at, size_of}
use Rattle.fs_model.specs.Handles.{bytes_written, is_bad_slot, size_limit, tree_written}
use Rattle.fs_model.specs.Making.{touched}
use Rattle.fs_model.specs.Operation.{outcome_of}
use Rattle.fs_model.specs.Orphan.{nameless, within_orphans}
use Rattle.fs_model.specs.Outcome.{Outcome, refuse, with_some}
use Rattle.fs_laws.specs.Sound.{IsSound}
use Rattle.buffered_files.specs.Alike.{IsAlike}
use Rattle.vfs_plans.specs.Answers.{Looks}
use Rattle.vfs_ops.specs.Kinds.{FitsNextOrphans, KeepsOrphans}
use Rattle.vfs_ops.specs.Operations.{is_of_names}
use Rattle.vfs_ops.proofs.Nameless.{set_again}
use Rattle.vfs_ops.proofs.Orphans.{on_names}
use Rattle.vfs_ops.proofs.Plans.{refuse_to, some_to}
use Rattle.std.specs.Prelude.{max}

-- no more than before
pub keeps_few : (old new : BackingState) (before after : Files) → next_orphans new ≤ next_orphans old → KeepsOrphans old new before after
keeps_few old new before after few = omega (arith, few)

-- a look leaves the list
pub looked_orphans : {x y : Outlook} {a b : BackingState} → Looks x y a b → next_orphans b ≤ next_orphans a
looked_orphans looks = let same = ap next_orphans looks.reads in omega (arith, same)

-- files that are alike have as many inodes without a name
pub alike_count : (a b : Files) → IsAlike a b → length (nameless b.tree) ≡ length (nameless a.tree)
alike_count a b alike = ap (λ inodes. length (keys_of (filter (λ entry. entry.1.nlink == 0) inodes))) (sym alike.inodes)

-- where one at most loses its last name
pub keeps_one : (old new : BackingState) (before after : Files) → length (nameless before.tree) ≡ length (nameless old.tree) → length (nameless after.tree) ≡ length (nameless new.tree) → new.closed ≤ old.closed
    → length (nameless after.tree) ≤ length (nameless before.tree) + 1 → KeepsOrphans old new before after
keeps_one old new before after was is closed one = by (nat_lt (length (nameless before.tree)) (length (nameless after.tree))) refl
  where
    by : (b : Bool) → nat_lt (length (nameless before.tree)) (length (nameless after.tree)) ≡ b → next_orphans new ≤ next_orphans old + cond b 1 0
    by true less = omega (arith, was, is, closed, one)
    by false less = let few = ltb-false (length (nameless before.tree)) (length (nameless after.tree)) less in omega (arith, was, is, closed, few)

-- callers see the same files
pub keeps_alike : (old new : BackingState) (before after : Files) → length (nameless before.tree) ≡ length (nameless old.tree) → length (nameless after.tree) ≡ length (nameless new.tree) → new.closed ≤ old.closed → IsAlike before after → next_orphans new ≤ next_orphans old
keeps_alike old new before after was is closed alike = let same = alike_count before after alike in omega (arith, was, is, closed, same)

-- callers see a group that fits the list
pub group_fits_list : (old new : BackingState) (before after : Files) (group : List Change) → length (nameless before.tree) ≡ length (nameless old.tree) → length (nameless after.tree) ≡ length (nameless new.tree) → new.closed ≤ old.closed
    → FitsOrphans before.tree old.closed old.orphan_limit group → IsAlike (record before { tree = apply before.tree group }) after → FitsNextOrphans old new
group_fits_list old new before after group was is closed fits alike = by fits
  where
    same : length (nameless after.tree) ≡ length (nameless (apply before.tree group))
    same = alike_count (record before { tree = apply before.tree group }) after alike

    by : FitsOrphans before.tree old.closed old.orphan_limit group → FitsNextOrphans old new
    by (inl few) = let e = same in inl (omega (arith, was, is, closed, few, e))
    by (inr room) = let e = same in inr (omega (arith, is, closed, room, e))

-- an operation on names
pub names_keep : (r : Result Reply Refusal) (old new : BackingState) (before seen : Files) (caller now : ℕ) (op : Op) → IsSound before → is_of_names op ≡ true → length (nameless before.tree) ≡ length (nameless old.tree) → length (nameless seen.tree) ≡ length (nameless new.tree)
    → new.closed ≤ old.closed → IfOk r (λ reply. (after : Files) × (within_orphans (orphan_room old) old.orphan_limit before (outcome_of before caller now op) ≡ Ok (reply, after)) × IsAlike after seen) → OnErr r (IsAlike before seen) → KeepsOrphans old new before seen
names_keep (Ok reply) old new before seen caller now op sound names was is closed done same =
    let one = (on_names (orphan_room old) old.orphan_limit before caller now op reply done.0 sound names done.1).one in
    let count = alike_count done.0 seen done.2 in
    keeps_one old new before seen was is closed (omega (arith, one, count))
names_keep (Err refusal) old new before seen caller now op sound names was is closed done same = keeps_few old new before seen (keeps_alike old new before seen was is closed same)

abbrev pub Keeps : Files → Outcome → Type 0
Keeps files (Ok done) = length (nameless done.1.tree) ≤ length (nameless files.tree)
Keeps files (Err refusal) = Unit {0}

-- a write leaves all names
pub write_keeps : (files : Files) (caller now slot offs len byte : ℕ) → IsSound files → Keeps files (bytes_written files caller now slot offs len byte)
write_keeps files caller now slot offs len byte sound =
    let P : Outcome → Type 0 = λ o. Keeps files o in
    let last : ℕ → Inode → Outcome = λ ino inode. Ok (Count len, if len == 0 then files else record files { tree = tree_written files.tree ino inode now offs len byte }) in
    let few : ℕ → Inode → Outcome = λ ino inode. refuse (nat_lt size_limit (offs + len)) Efbig (last ino inode) in
    let there : ℕ → Outcome = λ ino. with_some (inode_at files.tree ino) Ebadf (few ino) in
    let none : (e : Refusal) → P (Err e) = λ e. tt in
    refuse_to P (is_bad_slot slot || nat_lt 65536 len) Einval (with_some (handle_at files caller slot) Ebadf there) none (λ a.
    some_to P (handle_at files caller slot) Ebadf there none (λ ino at.
    some_to P (inode_at files.tree ino) Ebadf (few ino) none (λ inode is.
    refuse_to P (nat_lt size_limit (offs + len)) Efbig (last ino inode) none (λ b. by ino inode (set_again files.tree ino inode (touched now (record inode { size = max (size_of files.tree ino inode) (offs + len) })) sound.proper is refl) (len == 0)))))
  where
    by : (ino : ℕ) (inode : Inode) → length (nameless (tree_written files.tree ino inode now offs len byte)) ≤ length (nameless files.tree)
        → (z : Bool) → length (nameless (cond z files (record files { tree = tree_written files.tree ino inode now offs len byte })).tree) ≤ length (nameless files.tree)
    by ino inode few true = omega arith
    by ino inode few false = few

pub write_keep : {T : Type 0} (r : Result (Reply × T) Refusal) (old new : BackingState) (before seen : Files) (caller now : ℕ) (op : Op) (slot offs len byte : ℕ) → op ≡ Write slot offs len byte → IsSound before → length (nameless before.tree) ≡ length (nameless old.tree) → length (nameless seen.tree) ≡ length (nameless new.tree)
    → new.closed ≤ old.closed → IfOk r (λ x. (after : Files) × (outcome_of before caller now (Write slot offs len byte) ≡ Ok (x.0, after)) × IsAlike after seen) → OnErr r (IsAlike before seen) → KeepsOrphans old new before seen
write_keep (Ok x) old new before seen caller now op slot offs len byte e sound was is closed done same =
    let few : length (nameless done.0.tree) ≤ length (nameless before.tree) = subst (λ (o : Outcome). Keeps before o) done.1 (write_keeps before caller now slot offs len byte sound) in
    let count = alike_count done.0 seen done.2 in
    keeps_one old new before seen was is closed (omega (arith, few, count))
write_keep (Err refusal) old new before seen caller now op slot offs len byte e sound was is closed done same = keeps_few old new before seen (keeps_alike old new before seen was is closed same)

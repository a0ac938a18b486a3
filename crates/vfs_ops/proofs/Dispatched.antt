-- What a step answers where it is a look at the files, or an operation on names.
use Rattle.std.proofs.Common.{◌≡◌, ℕ, ◌⊎◌, inl, inr, Bool, true, false, cond, Err, refl, ap, subst, sym, ◌∙◌}
use Rattle.std.proofs.lemmas.Bool.{false≢true}
use Rattle.fs_model.specs.declared.op.Op.{Op}
use Rattle.fs_model.specs.declared.op.Op.TheVariants.{Create, Mkdir, Symlink, Link, Unlink, Rmdir, Rename, OpenFile, Close, Read, Write, Truncate, Fsync, Flush, List as ListDir, Stat, Readlink, Chmod}
use Rattle.fs_model.specs.declared.refusal.Refusal.{Refusal}
use Rattle.fs_model.specs.declared.space.Need.{Need}
use Rattle.fs_model.specs.Backing.{BackingState, orphan_room}
use Rattle.fs_model.specs.Files.{Files}
use Rattle.fs_model.specs.Legal.{is_sync}
use Rattle.fs_model.specs.Need.{need_of}
use Rattle.fs_model.specs.Operation.{outcome_of}
use Rattle.fs_model.specs.Orphan.{within_orphans}
use Rattle.fs_model.specs.Outcome.{Outcome}
use Rattle.buffered_files.specs.declared.kept.Kept.{Kept}
use Rattle.buffered_files.specs.Calls.{IsWithoutRoom}
use Rattle.vfs_plans.specs.Answers.{IsFault, IsRefused}
use Rattle.vfs_ops.specs.Kinds.{KeepsOthers, is_look}
use Rattle.vfs_ops.specs.Operations.{has_group, is_of_names}
use Rattle.vfs_ops.specs.Steps.{IsLast, IsTurnedDown, allowed_on, asked}
use Rattle.vfs_ops.proofs.NewSize.{size_turned}
use Rattle.vfs_ops.proofs.Serving.{IsRefusedOn, or_fault_last}

-- a look at the files syncs nothing
pub look_sync : (op : Op) → is_look op ≡ true → is_sync op ≡ false
look_sync (Fsync slot) is = absurd (false≢true is)
look_sync Flush is = absurd (false≢true is)
look_sync op is = refl

-- nor does it change anything
pub look_group : (op : Op) → is_look op ≡ true → has_group op ≡ false
look_group (Create path mode) is = absurd (false≢true is)
look_group (Mkdir path mode) is = absurd (false≢true is)
look_group (Symlink path target) is = absurd (false≢true is)
look_group (Link old new) is = absurd (false≢true is)
look_group (Unlink path) is = absurd (false≢true is)
look_group (Rmdir path) is = absurd (false≢true is)
look_group (Rename old new) is = absurd (false≢true is)
look_group (Chmod path mode) is = absurd (false≢true is)
look_group (Truncate slot size) is = absurd (false≢true is)
look_group op is = refl

-- it leaves the dirty pages of other files
pub look_others : (before after : Kept) (caller : ℕ) (op : Op) → is_look op ≡ true → KeepsOthers before after caller op
look_others before after caller (Fsync slot) is = absurd (false≢true is)
look_others before after caller op is = tt

look_turned : (old new : BackingState) (kept : Kept) (need : Need) (op : Op) (r : Refusal) → is_look op ≡ true → IsFault old new r → IsTurnedDown old new kept need op r
look_turned old new kept need (Read slot offs len) r is fault = fault
look_turned old new kept need (ListDir path) r is fault = fault
look_turned old new kept need (Stat path) r is fault = fault
look_turned old new kept need (Readlink path) r is fault = fault
look_turned old new kept need op r is fault = absurd (false≢true is)

-- it is refused as it is defined, or turned down for a fault
pub look_refused : (old new : BackingState) (kept : Kept) (need : Need) (op : Op) (plain : Outcome) (r : Refusal) → is_look op ≡ true → IsRefused old new plain r → (plain ≡ Err r) ⊎ (IsTurnedDown old new kept need op r × IsLast plain r)
look_refused old new kept need op plain r is refused = by (or_fault_last old new plain r refused)
  where
    by : (plain ≡ Err r) ⊎ (IsFault old new r × IsLast plain r) → (plain ≡ Err r) ⊎ (IsTurnedDown old new kept need op r × IsLast plain r)
    by (inl told) = inl told
    by (inr turned) = inr (look_turned old new kept need op r is turned.0, turned.1)

-- an operation on names is allowed where further orphans can be told of
pub names_allowed : (s : BackingState) (files : Files) (caller now : ℕ) (op : Op) → is_of_names op ≡ true → allowed_on s files caller now op ≡ within_orphans (orphan_room s) s.orphan_limit files (outcome_of files caller now op)
names_allowed s files caller now op is = ap (λ (b : Bool). cond b (within_orphans (orphan_room s) s.orphan_limit files (outcome_of files caller now op)) (outcome_of files caller now op)) is

names_turned : (old new : BackingState) (kept : Kept) (files : Files) (caller now grant : ℕ) (op : Op) (r : Refusal) → is_of_names op ≡ true → IsWithoutRoom old new kept (need_of files caller now op) r → IsTurnedDown old new kept (asked files caller now grant op) op r
names_turned old new kept files caller now grant (OpenFile path slot) r is room = absurd (false≢true is)
names_turned old new kept files caller now grant (Close slot) r is room = absurd (false≢true is)
names_turned old new kept files caller now grant (Read slot offs len) r is room = absurd (false≢true is)
names_turned old new kept files caller now grant (Write slot offs len byte) r is room = absurd (false≢true is)
names_turned old new kept files caller now grant (Fsync slot) r is room = absurd (false≢true is)
names_turned old new kept files caller now grant Flush r is room = absurd (false≢true is)
names_turned old new kept files caller now grant (ListDir path) r is room = absurd (false≢true is)
names_turned old new kept files caller now grant (Stat path) r is room = absurd (false≢true is)
names_turned old new kept files caller now grant (Readlink path) r is room = absurd (false≢true is)
names_turned old new kept files caller now grant op r is room = room

-- and it is refused as it is defined there, or turned down for a fault or want of room
pub names_refused : (old new : BackingState) (kept : Kept) (files : Files) (caller now grant : ℕ) (op : Op) (r : Refusal) → is_of_names op ≡ true
    → IsRefused old new (within_orphans (orphan_room old) old.orphan_limit files (outcome_of files caller now op)) r ⊎ (IsWithoutRoom old new kept (need_of files caller now op) r × IsLast (within_orphans (orphan_room old) old.orphan_limit files (outcome_of files caller now op)) r)
    → IsRefusedOn old new kept files caller now grant op r
names_refused old new kept files caller now grant op r is refused =
    by (size_turned old new kept (need_of files caller now op) (within_orphans (orphan_room old) old.orphan_limit files (outcome_of files caller now op)) r refused)
  where
    same : allowed_on old files caller now op ≡ within_orphans (orphan_room old) old.orphan_limit files (outcome_of files caller now op)
    same = names_allowed old files caller now op is

    by : (within_orphans (orphan_room old) old.orphan_limit files (outcome_of files caller now op) ≡ Err r) ⊎ (IsWithoutRoom old new kept (need_of files caller now op) r × IsLast (within_orphans (orphan_room old) old.orphan_limit files (outcome_of files caller now op)) r)
        → IsRefusedOn old new kept files caller now grant op r
    by (inl told) = inl (same ∙ told)
    by (inr turned) = inr (names_turned old new kept files caller now grant op r is turned.0, subst (λ (o : Outcome). IsLast o r) (sym same) turned.1)

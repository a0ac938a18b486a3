-- What a step answers, from what each of its parts answers.
use Rattle.std.proofs.Common.{◌≡◌, ℕ, ◌⊎◌, inl, inr, Bool, true, false, cond, Ok, Err, refl, sym, ap, subst, ◌∙◌, List, [], ◌++◌, Result, IfOk, OnOk, IfErr, Option, None, Some}
use Rattle.fs_model.specs.declared.op.Op.{Op}
use Rattle.fs_model.specs.declared.op.Op.TheVariants.{Create, Mkdir, Symlink, Link, Unlink, Rmdir, Rename, OpenFile, Close, Read, Write, Truncate, Fsync, Flush, List as ListDir, Stat, Readlink, Chmod}
use Rattle.fs_model.specs.declared.refusal.Cause.{Cause}
use Rattle.fs_model.specs.declared.refusal.NoSpace.{NoSpace}
use Rattle.fs_model.specs.declared.refusal.Refusal.TheVariants.{Eio, Enomem, Enospc, Erofs}
use Rattle.fs_model.specs.declared.space.Need.{Need}
use Rattle.fs_model.specs.declared.reply.Reply.{Reply}
use Rattle.fs_model.specs.declared.refusal.Refusal.{Refusal}
use Rattle.std.specs.BTreeMap.{is_at}
use Rattle.std.specs.Map.{lookup}
use Rattle.fs_model.specs.Backing.{BackingState, IsSynced, orphan_room}
use Rattle.fs_model.specs.Files.{Files, pair_cmp}
use Rattle.fs_model.specs.Operation.{outcome_of}
use Rattle.fs_model.specs.Outcome.{Outcome}
use Rattle.fs_model.specs.Orphan.{within_orphans}
use Rattle.buffered_files.specs.declared.kept.Kept.{Kept}
use Rattle.buffered_files.specs.Alike.{IsAlike}
use Rattle.buffered_files.specs.Calls.{IsNotEnospc}
use Rattle.buffered_files.specs.Present.{has_dirty}
use Rattle.vfs_plans.specs.Answers.{IsFault, IsRefused}
use Rattle.std.proofs.lemmas.Bool.{false≢true}
use Rattle.std.proofs.lemmas.List.{append-nil}
use Rattle.fs_model.specs.declared.backing_answers.Mode.{Mode}
use Rattle.fs_model.specs.declared.backing_answers.Mode.TheVariants.{ReadWrite}
use Rattle.fs_model.specs.declared.reply.Reply.TheVariants.{Done, Refused}
use Rattle.vfs_ops.specs.Events.{HasSynced}
use Rattle.vfs_ops.specs.Writing.{Buffers, BuffersReply}
use Rattle.vfs_ops.specs.Operations.{is_of_names}
use Rattle.vfs_ops.specs.Steps.{IsDone, IsRefusedFor, IsLast, IsTurnedDown, IsUnsynced, allowed_on, asked, is_write, no_space_in}

pub alike_self : (files : Files) → IsAlike files files
alike_self files = record { inodes = refl; blocks = refl; entries = refl; highest = refl; handles = refl; sizes = λ ino inode found plain. refl }

-- an operation that isn't of names is the plain one
plainly : (s : BackingState) (files : Files) (caller now : ℕ) (op : Op) → is_of_names op ≡ false → allowed_on s files caller now op ≡ outcome_of files caller now op
plainly s files caller now op e = ap (λ (b : Bool). cond b (within_orphans (orphan_room s) s.orphan_limit files (outcome_of files caller now op)) (outcome_of files caller now op)) e

-- done, as that operation is
pub done_on : (s : BackingState) (files after last : Files) (caller now : ℕ) (op other : Op) (reply : Reply) → op ≡ other → is_of_names other ≡ false
    → outcome_of files caller now other ≡ Ok (reply, after) → IsAlike after last → IsDone (allowed_on s files caller now op) last reply
done_on s files after last caller now op other reply e names done alike =
    subst (λ (o : Op). IsDone (allowed_on s files caller now o) last reply) (sym e) (after, plainly s files caller now other names ∙ done, alike)

-- refused, as that operation is
abbrev pub IsRefusedOn : BackingState → BackingState → Kept → Files → ℕ → ℕ → ℕ → Op → Refusal → Type 0
IsRefusedOn old new kept files caller now grant op refusal =
    (allowed_on old files caller now op ≡ Err refusal)
    ⊎ (IsTurnedDown old new kept (asked files caller now grant op) op refusal × IsLast (allowed_on old files caller now op) refusal)

pub refused_on : (old new : BackingState) (kept : Kept) (files : Files) (caller now grant : ℕ) (op other : Op) (refusal : Refusal) → op ≡ other → is_of_names other ≡ false
    → (outcome_of files caller now other ≡ Err refusal) ⊎ (IsTurnedDown old new kept (asked files caller now grant other) other refusal × IsLast (outcome_of files caller now other) refusal) → IsRefusedOn old new kept files caller now grant op refusal
refused_on old new kept files caller now grant op other refusal e names why =
    subst (λ (o : Op). IsRefusedOn old new kept files caller now grant o refusal) (sym e) (by why)
  where
    by : (outcome_of files caller now other ≡ Err refusal) ⊎ (IsTurnedDown old new kept (asked files caller now grant other) other refusal × IsLast (outcome_of files caller now other) refusal) → IsRefusedOn old new kept files caller now grant other refusal
    by (inl plain) = inl (plainly old files caller now other names ∙ plain)
    by (inr beside) = inr (beside.0, subst (λ plain. IsLast plain refusal) (sym (plainly old files caller now other names)) beside.1)

-- what holds of an answer holds where something weaker is asked
pub ok_map : {T E : Type 0} {P Q : T → Type 0} (r : Result T E) → ((x : T) → P x → Q x) → IfOk r P → IfOk r Q
ok_map (Ok x) f h = f x h
ok_map (Err e) f h = tt

pub err_map : {T E : Type 0} {P Q : E → Type 0} (r : Result T E) → ((e : E) → P e → Q e) → IfErr r P → IfErr r Q
err_map (Ok x) f h = tt
err_map (Err e) f h = f e h

-- refused at every moment is refused at this one
pub at_now : {P : ℕ → Type 0} {Q : Type 0} (now : ℕ) → ((n : ℕ) → P n) ⊎ Q → P now ⊎ Q
at_now now (inl h) = inl (h now)
at_now now (inr q) = inr q

-- want of memory is free
turned_down : (old new : BackingState) (kept : Kept) (need : Need) (op : Op) → IsTurnedDown old new kept need op Enomem
turned_down old new kept need (Create path mode) = tt
turned_down old new kept need (Mkdir path mode) = tt
turned_down old new kept need (Symlink path target) = tt
turned_down old new kept need (Link a b) = tt
turned_down old new kept need (Unlink path) = tt
turned_down old new kept need (Rmdir path) = tt
turned_down old new kept need (Rename a b) = tt
turned_down old new kept need (OpenFile path slot) = tt
turned_down old new kept need (Close slot) = tt
turned_down old new kept need (Read slot offs len) = tt
turned_down old new kept need (Write slot offs len byte) = tt
turned_down old new kept need (Truncate slot size) = tt
turned_down old new kept need (Fsync slot) = tt
turned_down old new kept need Flush = tt
turned_down old new kept need (ListDir path) = tt
turned_down old new kept need (Stat path) = tt
turned_down old new kept need (Readlink path) = tt
turned_down old new kept need (Chmod path mode) = tt

-- a refusal for want of room may be told as want of memory
pub noted_for : (cause : Option Cause) (old new : BackingState) (kept : Kept) (files : Files) (caller now grant : ℕ) (op : Op) (refusal noted : Refusal)
    → (noted ≡ refusal) ⊎ ((noted ≡ Enomem) × ((space : NoSpace) × (refusal ≡ Enospc space)))
    → IsRefusedFor cause old new kept files caller now grant op refusal → IsRefusedFor cause old new kept files caller now grant op noted
noted_for cause old new kept files caller now grant op refusal noted (inl same) why = subst (λ r. IsRefusedFor cause old new kept files caller now grant op r) (sym same) why
noted_for (Some cause) old new kept files caller now grant op refusal noted (inr (memory, full)) why =
    let n : Enospc full.0 ≡ Erofs cause = sym full.1 ∙ why in absurd cc
noted_for None old new kept files caller now grant op refusal noted (inr (memory, full)) why =
    subst (λ r. IsRefusedFor None old new kept files caller now grant op r) (sym memory) (inr (turned_down old new kept (asked files caller now grant op) op, tt))

-- a fault isn't want of room
pub fault_last : (old new : BackingState) (plain : Outcome) (refusal : Refusal) → IsFault old new refusal → IsLast plain refusal
fault_last old new plain (Eio count) h = tt
fault_last old new plain Enomem h = tt
fault_last old new plain refusal h = absurd h

pub or_fault_last : (old new : BackingState) (plain : Outcome) (refusal : Refusal) → IsRefused old new plain refusal → (plain ≡ Err refusal) ⊎ (IsFault old new refusal × IsLast plain refusal)
or_fault_last old new plain refusal (inl h) = inl h
or_fault_last old new plain refusal (inr h) = inr (h, fault_last old new plain refusal h)

-- nor is what stops a sync
pub unsynced_last : (old new : BackingState) (plain : Outcome) (refusal : Refusal) → IsUnsynced old new refusal → IsLast plain refusal
unsynced_last old new plain (Eio count) h = tt
unsynced_last old new plain (Erofs cause) h = tt
unsynced_last old new plain Enomem h = tt
unsynced_last old new plain refusal h = absurd h

pub or_unsynced_last : (old new : BackingState) (plain : Outcome) (refusal : Refusal) → (plain ≡ Err refusal) ⊎ IsUnsynced old new refusal → (plain ≡ Err refusal) ⊎ (IsUnsynced old new refusal × IsLast plain refusal)
or_unsynced_last old new plain refusal (inl h) = inl h
or_unsynced_last old new plain refusal (inr h) = inr (h, unsynced_last old new plain refusal h)

-- an operation on names is no sync
pub names_synced : (mode : Mode) (new : BackingState) (before after : Kept) (caller : ℕ) (op : Op) (reply : Reply) → is_of_names op ≡ true → HasSynced mode new before after caller op reply
names_synced ReadWrite new before after caller Flush Done h = absurd (false≢true h)
names_synced ReadWrite new before after caller (Fsync slot) Done h = absurd (false≢true h)
names_synced mode new before after caller op reply h = tt

-- a sync that is done, by what it has done
pub flush_synced : (mode : Mode) (new : BackingState) (before after : Kept) (caller : ℕ) (reply : Reply) → IsSynced new → after.pages.dirty ≡ [] → after.inodes ≡ [] → HasSynced mode new before after caller Flush reply
flush_synced ReadWrite new before after caller Done synced pages inodes = (synced, pages, inodes)
flush_synced mode new before after caller reply synced pages inodes = tt

pub fsync_synced : (mode : Mode) (new : BackingState) (before after : Kept) (caller slot : ℕ) (reply : Reply) → IsSynced new → ((ino : ℕ) → lookup (is_at (pair_cmp (caller, slot))) before.handles ≡ Some ino → has_dirty after.pages.dirty ino ≡ false)
    → HasSynced mode new before after caller (Fsync slot) reply
fsync_synced ReadWrite new before after caller slot Done synced pages = (synced, pages)
fsync_synced mode new before after caller slot reply synced pages = tt

pub flush_written : (r : Result Reply Refusal) (mode : Mode) (new : BackingState) (before after : Kept) → OnOk r (IsSynced new) → OnOk r (after.pages.dirty ≡ []) → OnOk r (after.inodes ≡ []) → IfOk r (λ reply. (caller : ℕ) → HasSynced mode new before after caller Flush reply)
flush_written (Ok reply) mode new before after synced pages inodes = λ caller. flush_synced mode new before after caller reply synced pages inodes
flush_written (Err e) mode new before after synced pages inodes = tt

pub fsync_written : (r : Result Reply Refusal) (mode : Mode) (new : BackingState) (before after : Kept) (caller slot : ℕ) → OnOk r (IsSynced new) → OnOk r ((ino : ℕ) → lookup (is_at (pair_cmp (caller, slot))) before.handles ≡ Some ino → has_dirty after.pages.dirty ino ≡ false)
    → IfOk r (λ reply. HasSynced mode new before after caller (Fsync slot) reply)
fsync_written (Ok reply) mode new before after caller slot synced pages = fsync_synced mode new before after caller slot reply synced pages
fsync_written (Err e) mode new before after caller slot synced pages = tt

-- the same of that operation
pub synced_on : (mode : Mode) (new : BackingState) (before after : Kept) (caller : ℕ) (op other : Op) (reply : Reply) → op ≡ other → HasSynced mode new before after caller other reply → HasSynced mode new before after caller op reply
synced_on mode new before after caller op other reply e synced = subst (λ (o : Op). HasSynced mode new before after caller o reply) (sym e) synced

-- nor is a refusal a sync that is done
pub refused_synced : (mode : Mode) (new : BackingState) (before after : Kept) (caller : ℕ) (op : Op) (refusal : Refusal) → HasSynced mode new before after caller op (Refused refusal)
refused_synced ReadWrite new before after caller Flush refusal = tt
refused_synced ReadWrite new before after caller (Fsync slot) refusal = tt
refused_synced mode new before after caller op refusal = tt

-- what is no write isn't buffered
pub none_buffered : {T : Type 0} (old new : BackingState) (before after : Kept) (caller grant : ℕ) (op : Op) (result : Result T Refusal) → is_write op ≡ false → Buffers old new before after caller grant op result
none_buffered old new before after caller grant (Write slot offs len byte) result h = absurd (false≢true (sym h))
none_buffered old new before after caller grant op result h = tt

pub not_write : (op : Op) → ((slot offs len byte : ℕ) → op ≡ Write slot offs len byte → ⊥) → is_write op ≡ false
not_write (Write slot offs len byte) h = absurd (h slot offs len byte refl)
not_write op h = refl

-- what isn't want of room isn't told as that
pub none_noted : (T : Type 0) (refusal noted : Refusal) → IsNotEnospc {T = T} (Err refusal) → (noted ≡ refusal) ⊎ ((noted ≡ Enomem) × ((space : NoSpace) × (refusal ≡ Enospc space))) → no_space_in (Refused noted) ≡ []
none_noted T refusal noted room (inl same) = subst (λ r. no_space_in (Refused r) ≡ []) (sym same) (by refusal room)
  where
    by : (r : Refusal) → IsNotEnospc {T = T} (Err r) → no_space_in (Refused r) ≡ []
    by (Enospc space) never = absurd never
    by r other = refl
none_noted T refusal noted room (inr (memory, full)) = subst (λ r. no_space_in (Refused r) ≡ []) (sym memory) refl

-- a write that is refused is buffered still
pub refused_buffered : (T : Type 0) (old new : BackingState) (before after : Kept) (first last : List NoSpace) (caller grant : ℕ) (op : Op) (refusal noted : Refusal)
    → Buffers {T = T} old new before after caller grant op (Err refusal) → (noted ≡ refusal) ⊎ ((noted ≡ Enomem) × ((space : NoSpace) × (refusal ≡ Enospc space))) → last ≡ first ++ no_space_in (Refused noted)
    → BuffersReply old new before after first last caller grant op (Refused noted)
refused_buffered T old new before after first last caller grant (Write slot offs len byte) refusal noted buffers told more = λ ino found room.
    let b = buffers ino found room in
    record {
      geometry = b.geometry;
      tree = b.tree;
      journal = b.journal;
      room = more ∙ ap (λ sides. first ++ sides) (none_noted T refusal noted b.room told) ∙ append-nil first;
      dirty = inl (noted, refl, b.refused);
    }
refused_buffered T old new before after first last caller grant op refusal noted buffers told more = tt

-- and so is one that is done
pub done_buffered : (T : Type 0) (old new : BackingState) (before after : Kept) (first : List NoSpace) (caller grant : ℕ) (op : Op) (done : T) (reply : Reply) → Buffers {T = T} old new before after caller grant op (Ok done) → BuffersReply old new before after first first caller grant op reply
done_buffered T old new before after first caller grant (Write slot offs len byte) done reply buffers = λ ino found room.
    let b = buffers ino found room in
    record { geometry = b.geometry; tree = b.tree; journal = b.journal; room = refl; dirty = inr b.dirty }
done_buffered T old new before after first caller grant op done reply buffers = tt

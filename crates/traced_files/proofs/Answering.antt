-- What a step answered, answered from the place of a history in which callers can't tell the files from the present ones.
use Rattle.std.proofs.Common.{◌≡◌, ◌≢◌, ◌⊎◌, inl, inr, ℕ, ◌≤◌, Bool, true, false, cond, ◌&&◌, List, [], ◌∷◌, Ok, Err, Some, None, refl, sym, ap, subst, ◌∙◌, arith}
use Rattle.std.specs.Prelude.{◌==◌, ◌<◌, ◌||◌, nat_lt}
use Rattle.std.proofs.lemmas.Bool.{false≢true, ltb-true}
use Rattle.fs_model.specs.declared.backing_answers.Mode.{Mode}
use Rattle.fs_model.specs.declared.backing_answers.Mode.TheVariants.{ReadWrite, ReadOnly}
use Rattle.fs_model.specs.declared.op.Op.{Op}
use Rattle.fs_model.specs.declared.op.Op.TheVariants.{OpenFile, Close, Read, Fsync, Flush, List as ListDir, Stat, Readlink}
use Rattle.fs_model.specs.declared.refusal.Cause.{Cause}
use Rattle.fs_model.specs.declared.refusal.Cause.TheVariants.{Faulted, Spent}
use Rattle.fs_model.specs.declared.refusal.Refusal.{Refusal}
use Rattle.fs_model.specs.declared.refusal.Refusal.TheVariants.{Enospc, Erofs, Eio, Enomem, Enfile}
use Rattle.fs_model.specs.declared.refusal.Table.TheVariants.{Orphans}
use Rattle.fs_model.specs.declared.reply.Reply.{Reply}
use Rattle.fs_model.specs.declared.reply.Reply.TheVariants.{Refused}
use Rattle.fs_model.specs.declared.trace.TraceLine.{TraceLine}
use Rattle.fs_model.specs.Backing.{BackingState, ModeGoes, Rose}
use Rattle.fs_model.specs.Files.{Files}
use Rattle.fs_model.specs.Legal.{Opening, Place, count_in, is_tight, pages_in, read_only_cause, sides_in}
use Rattle.fs_model.specs.Operation.{Outcome, outcome_of}
use Rattle.fs_model.specs.Orphan.{leaves_orphan, within_orphans}
use Rattle.fs_model.specs.Outcome.{refuse}
use Rattle.fs_model.specs.declared.space.Need.{Need}
use Rattle.buffered_files.specs.declared.kept.Kept.{Kept}
use Rattle.buffered_files.specs.Alike.{IsAlike}
use Rattle.buffered_files.specs.Calls.{IsWithoutRoom}
use Rattle.vfs_plans.specs.Answers.{IsFault}
use Rattle.vfs_ops.specs.Operations.{has_group, is_of_names}
use Rattle.vfs_ops.specs.Replies.{IsAlikeOutcome}
use Rattle.vfs_ops.specs.Steps.{IsTurnedDown, IsUnsynced, allowed, no_space_in}
use Rattle.credited_files.specs.Calls.{needs_room}
use Rattle.traced_files.specs.History.{IsRoomAsked, IsRoomTold}

-- an outcome that was let through is the plain one
within_done : (room limit : ℕ) (files : Files) (o : Outcome) (x : Reply × Files) → within_orphans room limit files o ≡ Ok x → o ≡ Ok x
within_done room limit files (Err r) x e = absurd cc
within_done room limit files (Ok found) x e = by ((room == 0) && leaves_orphan files found.1) e
  where
    by : (b : Bool) → refuse b (Enfile Orphans limit) (Ok found) ≡ Ok x → ◌≡◌ {A = Outcome} (Ok found) (Ok x)
    by true e = absurd cc
    by false e = e

-- why an outcome wasn't let through: as the plain one, or since no orphan more can be told of
pub record IsOverfull (room limit : ℕ) (files : Files) (plain : Outcome) (refusal : Refusal) : Type 0 where
  pub found : Reply × Files
  pub plain_is : plain ≡ Ok found
  pub none : room ≡ 0
  pub orphan : leaves_orphan files found.1 ≡ true
  pub told : refusal ≡ Enfile Orphans limit

within_refused : (room limit : ℕ) (files : Files) (o : Outcome) (refusal : Refusal) → within_orphans room limit files o ≡ Err refusal → (o ≡ Err refusal) ⊎ IsOverfull room limit files o refusal
within_refused room limit files (Err r) refusal e = inl e
within_refused room limit files (Ok found) refusal e = by (room == 0) refl (leaves_orphan files found.1) refl e
  where
    by : (a : Bool) → (room == 0) ≡ a → (b : Bool) → leaves_orphan files found.1 ≡ b → refuse (a && b) (Enfile Orphans limit) (Ok found) ≡ Err refusal → ◌≡◌ {A = Outcome} (Ok found) (Err refusal) ⊎ IsOverfull room limit files (Ok found) refusal
    by false none b orphan e = absurd cc
    by true none false orphan e = absurd cc
    by true none true orphan e = inr (record { found = found; plain_is = refl; none = grind (arith, none); orphan = orphan; told = cc })

pub allowed_done : (room limit : ℕ) (files : Files) (caller now : ℕ) (op : Op) (x : Reply × Files) → allowed room limit files caller now op ≡ Ok x → outcome_of files caller now op ≡ Ok x
allowed_done room limit files caller now op x e = by (is_of_names op) e
  where
    by : (b : Bool) → cond b (within_orphans room limit files (outcome_of files caller now op)) (outcome_of files caller now op) ≡ Ok x → outcome_of files caller now op ≡ Ok x
    by true e = within_done room limit files (outcome_of files caller now op) x e
    by false e = e

pub allowed_refused : (room limit : ℕ) (files : Files) (caller now : ℕ) (op : Op) (refusal : Refusal) → allowed room limit files caller now op ≡ Err refusal
    → (outcome_of files caller now op ≡ Err refusal) ⊎ IsOverfull room limit files (outcome_of files caller now op) refusal
allowed_refused room limit files caller now op refusal e = by (is_of_names op) e
  where
    by : (b : Bool) → cond b (within_orphans room limit files (outcome_of files caller now op)) (outcome_of files caller now op) ≡ Err refusal → (outcome_of files caller now op ≡ Err refusal) ⊎ IsOverfull room limit files (outcome_of files caller now op) refusal
    by true e = within_refused room limit files (outcome_of files caller now op) refusal e
    by false e = inl e

-- what files that are alike answer
pub record IsDoneAlike (a : Outcome) (reply : Reply) (seen : Files) : Type 0 where
  pub after : Files
  pub done : a ≡ Ok (reply, after)
  pub same : IsAlike after seen

pub alike_done : (a b : Outcome) (reply : Reply) (seen : Files) → IsAlikeOutcome a b → b ≡ Ok (reply, seen) → IsDoneAlike a reply seen
alike_done (Ok x) (Ok y) reply seen h e =
    let is : y ≡ (reply, seen) = cc in
    record { after = x.1; done = ap (λ (r : Reply). Ok (r, x.1)) (h.0 ∙ ap (λ (z : Reply × Files). z.0) is); same = subst (λ (z : Reply × Files). IsAlike x.1 z.1) is h.1 }
alike_done (Ok x) (Err y) reply seen h e = absurd h
alike_done (Err x) (Ok y) reply seen h e = absurd h
alike_done (Err x) (Err y) reply seen h e = absurd cc

pub alike_refused : (a b : Outcome) (refusal : Refusal) → IsAlikeOutcome a b → b ≡ Err refusal → a ≡ Err refusal
alike_refused (Ok x) (Ok y) refusal h e = absurd cc
alike_refused (Ok x) (Err y) refusal h e = absurd h
alike_refused (Err x) (Ok y) refusal h e = absurd h
alike_refused (Err x) (Err y) refusal h e = ap Err h ∙ e

-- a line tells what its reply tells
pub sides_told : (line : TraceLine) → sides_in line ≡ no_space_in line.reply
sides_told line = by line.caller line.number line.now line.op line.reply
  where
    by : (caller number now : ℕ) (op : Op) (reply : Reply) → sides_in (record { caller = caller; number = number; now = now; op = op; reply = reply }) ≡ no_space_in reply
    by caller number now op (Refused (Enospc sides)) = refl
    by caller number now op (Refused refusal) = refl
    by caller number now op reply = refl

-- the operation changes something and is no sync: a read-only store doesn't do it
abbrev pub IsChanging : Op → Type 0
IsChanging op = (cause : Cause) → read_only_cause (ReadOnly cause) op ≡ Some cause

pub open_of : (mode : Mode) (op : Op) → read_only_cause mode op ≡ None → IsChanging op → mode ≡ ReadWrite
open_of ReadWrite op e changing = refl
open_of (ReadOnly cause) op e changing = let f = changing cause in absurd cc

-- why an operation is turned down, whatever it is: want of room comes to those alone that change something
abbrev pub IsDowned : BackingState → BackingState → Kept → Need → Op → Refusal → Type 0
IsDowned old new kept need op (Enospc space) = IsChanging op × IsWithoutRoom old new kept need (Enospc space)
IsDowned old new kept need op (Erofs cause) = (new.mode ≡ ReadOnly cause) × (read_only_cause (ReadOnly cause) op ≡ Some cause)
IsDowned old new kept need op (Eio count) = Rose old.faults new.faults × (count ≡ new.faults) × (new.mode ≢ ReadWrite)
IsDowned old new kept need op Enomem = Unit {0}
IsDowned old new kept need op refusal = ⊥

of_fault : (old new : BackingState) (kept : Kept) (need : Need) (op : Op) (refusal : Refusal) → IsFault old new refusal → IsDowned old new kept need op refusal
of_fault old new kept need op (Eio count) h = h
of_fault old new kept need op Enomem h = tt
of_fault old new kept need op refusal h = absurd h

of_room : (old new : BackingState) (kept : Kept) (need : Need) (op : Op) (refusal : Refusal) → IsChanging op → IsWithoutRoom old new kept need refusal → IsDowned old new kept need op refusal
of_room old new kept need op (Enospc space) changing h = (changing, h)
of_room old new kept need op (Eio count) changing h = h
of_room old new kept need op (Erofs cause) changing h = (h, changing cause)
of_room old new kept need op Enomem changing h = tt
of_room old new kept need op refusal changing h = absurd h

-- a store that could be written is never too full from now on
not_tight : (old new : BackingState) (cause : Cause) → ModeGoes old new → old.mode ≡ ReadWrite → new.mode ≡ ReadOnly cause → is_tight cause ≡ false
not_tight old new cause (inl same) was is = let e : ReadOnly cause ≡ ReadWrite = sym is ∙ same ∙ was in absurd cc
not_tight old new cause (inr (first, inl lost)) was is = let e : ReadOnly cause ≡ ReadOnly (Faulted lost.0) = sym is ∙ lost.1 in let f : cause ≡ Faulted lost.0 = cc in ap is_tight f
not_tight old new cause (inr (first, inr spent)) was is = let e : ReadOnly cause ≡ ReadOnly (Spent spent.0 spent.1) = sym is ∙ spent.2 in let f : cause ≡ Spent spent.0 spent.1 = cc in ap is_tight f

-- a sync, which a store that is too full doesn't refuse
abbrev IsSyncing : Op → Type 0
IsSyncing op = (cause : Cause) → is_tight cause ≡ false → read_only_cause (ReadOnly cause) op ≡ Some cause

of_sync : (old new : BackingState) (kept : Kept) (need : Need) (op : Op) (refusal : Refusal) → IsSyncing op → ModeGoes old new → IsUnsynced old new refusal → IsDowned old new kept need op refusal
of_sync old new kept need op (Erofs cause) syncing goes h = (h.1, syncing cause (not_tight old new cause goes h.0 h.1))
of_sync old new kept need op (Eio count) syncing goes h = h
of_sync old new kept need op Enomem syncing goes h = tt
of_sync old new kept need op refusal syncing goes h = absurd h

pub downed : (old new : BackingState) (kept : Kept) (need : Need) (op : Op) (refusal : Refusal) → ModeGoes old new → IsTurnedDown old new kept need op refusal → IsDowned old new kept need op refusal
downed old new kept need (OpenFile path slot) refusal goes h = of_fault old new kept need (OpenFile path slot) refusal h
downed old new kept need (Close slot) refusal goes h = of_fault old new kept need (Close slot) refusal h
downed old new kept need (Read slot offs len) refusal goes h = of_fault old new kept need (Read slot offs len) refusal h
downed old new kept need (ListDir path) refusal goes h = of_fault old new kept need (ListDir path) refusal h
downed old new kept need (Stat path) refusal goes h = of_fault old new kept need (Stat path) refusal h
downed old new kept need (Readlink path) refusal goes h = of_fault old new kept need (Readlink path) refusal h
downed old new kept need (Fsync slot) refusal goes h = of_sync old new kept need (Fsync slot) refusal (λ cause not. ap (λ (b : Bool). cond b None (Some cause)) not) goes h
downed old new kept need Flush refusal goes h = of_sync old new kept need Flush refusal (λ cause not. ap (λ (b : Bool). cond b None (Some cause)) not) goes h
downed old new kept need op refusal goes h = of_room old new kept need op refusal (λ cause. refl) h

-- how a reply counts: it tells no count of faults, or one that rose in this call
abbrev pub IsCounted : ℕ → ℕ → List ℕ → Type 0
IsCounted old new counts = (counts ≡ []) ⊎ ((count : ℕ) × (counts ≡ count ∷ []) × Rose old count × (count ≤ new))

-- whether a reply is want of room
abbrev pub tells_room : Reply → Bool
tells_room (Refused (Enospc sides)) = true
tells_room reply = false

pub asked_none : (line : TraceLine) → tells_room line.reply ≡ false → IsRoomAsked line
asked_none line e sides told = absurd (false≢true (sym e ∙ ap tells_room told))

pub told_none : (opening : Opening) (place : Place) (line : TraceLine) → tells_room line.reply ≡ false → IsRoomTold opening place line
told_none opening place line e sides told = absurd (false≢true (sym e ∙ ap tells_room told))

-- what may ask for room touches a page, or has a group
pub asked_by : (grant : ℕ) (op : Op) → needs_room grant op ≡ true → (0 < pages_in op) ⊎ (has_group op ≡ true)
asked_by grant op needs = by (has_group op) refl needs
  where
    by : (grouped : Bool) → has_group op ≡ grouped → (grouped || nat_lt grant (pages_in op)) ≡ true → (0 < pages_in op) ⊎ (has_group op ≡ true)
    by true is some = inr is
    by false is some = let less = ltb-true grant (pages_in op) some in inl (omega (arith, less))

-- whether a reply tells a count of faults
abbrev pub tells_count : Reply → Bool
tells_count (Refused (Eio count)) = true
tells_count reply = false

pub counts_none : (line : TraceLine) → tells_count line.reply ≡ false → count_in line ≡ []
counts_none line e = by line.caller line.number line.now line.op line.reply e
  where
    by : (caller number now : ℕ) (op : Op) (reply : Reply) → tells_count reply ≡ false → count_in (record { caller = caller; number = number; now = now; op = op; reply = reply }) ≡ []
    by caller number now op (Refused (Eio count)) e = absurd cc
    by caller number now op (Refused refusal) e = refl
    by caller number now op reply e = refl

pub counts_one : (line : TraceLine) (count : ℕ) → line.reply ≡ Refused (Eio count) → count_in line ≡ count ∷ []
counts_one line count e = by line.caller line.number line.now line.op line.reply e
  where
    by : (caller number now : ℕ) (op : Op) (reply : Reply) → reply ≡ Refused (Eio count) → count_in (record { caller = caller; number = number; now = now; op = op; reply = reply }) ≡ count ∷ []
    by caller number now op reply e = ap (λ (r : Reply). count_in (record { caller = caller; number = number; now = now; op = op; reply = r })) e

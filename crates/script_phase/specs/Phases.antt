-- What callers do who are at work at once: their lines are one history.
use Rattle.std.specs.Prelude.{◌≡◌, ℕ, zero, suc, ◌+◌, ◌≤◌, ◌==◌, max, if◌then◌else◌, Bool, true, false, List, [], ◌∷◌, All, filter, length, map}
use Rattle.std.specs.List.{flat_map, list_any}
use Rattle.fs_model.specs.declared.backing_answers.Mode.TheVariants.{ReadWrite}
use Rattle.fs_model.specs.declared.op.Op.{Op}
use Rattle.fs_model.specs.declared.refusal.Refusal.TheVariants.{Enomem}
use Rattle.fs_model.specs.declared.reply.Reply.{Reply}
use Rattle.fs_model.specs.declared.reply.Reply.TheVariants.{Refused}
use Rattle.fs_model.specs.declared.trace.TraceLine.{TraceLine}
use Rattle.fs_model.specs.Backing.{orphan_room}
use Rattle.fs_model.specs.Legal.{AreLines, Opening, Place, count_in}
use Rattle.buffered_files.specs.declared.kept.Kept.{Kept}
use Rattle.buffered_files.specs.Alike.{IsAlike}
use Rattle.plain_backing.specs.declared.backing.PlainBacking.{PlainBacking}
use Rattle.plain_backing.specs.PlainBacking.{outlook_of, backing_state_of}
use Rattle.vfs_ops.specs.FilesState.{FilesState, present_in}
use Rattle.traced_files.specs.History.{AreRoomsTold, IsRoomAsked, IsWithinWeight, first_place, is_flushed}
use Rattle.traced_files.specs.States.{TracedPassState}
use Rattle.writeback.specs.Runs.{lines_by}
use Rattle.script_phase.specs.declared.lines.CallerLine.{CallerLine}

-- the operations of one caller, in order
abbrev pub ops_by : ℕ → List CallerLine → List Op
ops_by caller lines = map (λ line. line.op) (filter (λ line. line.caller == caller) lines)

-- the same of the lines of a trace
abbrev pub traced_by : ℕ → List TraceLine → List Op
traced_by caller trace = map (λ line. line.op) (lines_by caller trace)

-- the greatest number of a caller
abbrev pub last_caller : List CallerLine → ℕ
last_caller [] = 0
last_caller (line ∷ lines) = max line.caller (last_caller lines)

-- how many of the callers from 1 to this number have a line
abbrev pub callers_to : ℕ → List CallerLine → ℕ
callers_to zero lines = 0
callers_to (suc n) lines = callers_to n lines + (if list_any (λ line. line.caller == suc n) lines then 1 else 0)

-- how many callers have a line
abbrev pub callers_in : List CallerLine → ℕ
callers_in lines = callers_to (last_caller lines) lines

-- the passes of the callers behind this one, in order
abbrev pub AreNumberedFrom : ℕ → List TracedPassState → Type 0
AreNumberedFrom caller [] = Unit {0}
AreNumberedFrom caller (pass ∷ passes) = (pass.caller ≡ caller + 1) × AreNumberedFrom (caller + 1) passes

-- whether there was no memory for an operation
abbrev pub is_memory : Reply → Bool
is_memory (Refused Enomem) = true
is_memory reply = false

-- No call of the backing fails, and it can be written. All that it promised has room, and each covered credit is that of a dirty page.
pub record IsUnfailing (backing : PlainBacking) (kept : Kept) : Type 0 where
  pub mode : (backing_state_of backing).mode ≡ ReadWrite
  pub faults : (backing_state_of backing).faults ≡ 0
  pub sure : (outlook_of backing).sure
  pub credits : (backing_state_of backing).space.credits ≡ length kept.pages.dirty

-- The backing has the geometry that it had, and lists of orphans take as many.
abbrev pub HasSameLimits : PlainBacking → PlainBacking → Type 0
HasSameLimits old new = ((backing_state_of new).geometry ≡ (backing_state_of old).geometry) × ((backing_state_of new).orphan_limit ≡ (backing_state_of old).orphan_limit)

-- Callers were at work at once. Their lines are one trace, from the opening to these files.
pub record IsOneTrace (opening : Opening) (now : ℕ) (lines : List CallerLine) (trace : List TraceLine) (after : FilesState) : Type 0 where
  -- Each caller's lines stand in it, each once and in order, and no others; they have the phase's time.
  pub own : (caller : ℕ) → traced_by caller trace ≡ ops_by caller lines
  pub time : All (λ line. line.now ≡ now) trace
  -- Each is numbered by its caller, and answered as the plain operation answers on the files that the line before it left; or it is refused: for want of room if it may ask for room, with no less room than the lines leave, or since the next list of orphans is full. None was refused for want of memory, or by a fault of the volume.
  pub last : Place
  pub answered : AreLines opening ReadWrite (first_place opening) trace last
  pub asked : All IsRoomAsked trace
  pub rooms : AreRoomsTold opening trace
  pub memory : All (λ line. is_memory line.reply ≡ false) trace
  pub faultless : flat_map count_in trace ≡ []
  -- Callers see the files behind the last line, but for zeros at the ends of blocks.
  pub same : IsAlike last.files (present_in after)
  -- Behind a flush that was done no page is dirty, as long as nothing but questions is asked.
  pub flushed : is_flushed trace ≡ true → after.kept.pages.dirty ≡ []
  -- The index weighs no more than the lines may add: what neither writes nor has a group adds nothing. It takes no more LEBs than before, or than twice those that it asks for. The next list of orphans has as much room as the lines left of it.
  pub weight : IsWithinWeight opening trace after.backing after.kept
  pub orphans : opening.orphan_room ≤ orphan_room after.backing + last.orphans

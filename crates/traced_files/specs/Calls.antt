-- What a call answers and leaves.
use Rattle.std.specs.Prelude.{◌≡◌, ℕ, ◌+◌, ◌<◌, ◌≤◌, List, length, slice_get, Some}
use mathlib.Core.List.{IsPrefix}
use Rattle.fs_model.specs.declared.op.Op.{Op}
use Rattle.fs_model.specs.declared.refusal.Refusal.TheVariants.{Enomem}
use Rattle.fs_model.specs.declared.reply.Reply.{Reply}
use Rattle.fs_model.specs.declared.reply.Reply.TheVariants.{Refused}
use Rattle.fs_model.specs.declared.trace.TraceLine.{TraceLine}
use Rattle.fs_model.specs.Backing.{Outlook}
use Rattle.fs_model.specs.Legal.{IsLegal}
use Rattle.trace_word.specs.Knowledge.{lines_of}
use Rattle.vfs_ops.specs.FilesState.{FilesState}
use Rattle.credited_files.specs.Calls.{WasServed}
use Rattle.traced_files.specs.History.{IsSureSince, present_of}
use Rattle.traced_files.specs.Replies.{IsToldAs}
use Rattle.traced_files.specs.Seen.{HasLeftSeen}
use Rattle.traced_files.specs.Start.{IsHistoryFrom, Start, opening_at}
use Rattle.traced_files.specs.States.{TracedPassState}

-- the reply is want of memory, no line was written, and the pass is as before
abbrev pub IsUndone : TracedPassState → TracedPassState → Reply → Type 0
IsUndone old new reply = (reply ≡ Refused Enomem) × (new ≡ old)

-- A call was made: its line stands at the place told, behind all that was seen before. The trace so far is a history, and has just the calls of the caller that it made.
pub record IsEntered (start : Start) (old : TracedPassState) (now : ℕ) (op : Op) (new : TracedPassState) (reply : Reply) : Type 0 where
  pub word : new.word ≡ old.word
  pub pool : new.pool ≡ old.pool
  pub caller : new.caller ≡ old.caller
  pub made : new.made ≡ old.made + 1
  pub line : slice_get new.seen new.last ≡ Some (record { caller = old.caller; number = new.made; now = now; op = op; reply = reply })
  pub begins : IsPrefix old.seen new.seen
  pub behind : length old.seen ≤ new.last
  pub lines : lines_of new.caller new.seen ≡ new.made
  pub legal : (state : FilesState) × IsHistoryFrom start new.seen state

-- A call was served with the credits that its caller brought. The reply is its answer, but for bytes of which no memory could hold a copy.
pub record WasStepped (callers held : ℕ) (old new : FilesState) (caller now : ℕ) (op : Op) (told : Reply) : Type 0 where
  pub answer : Reply
  pub served : WasServed callers held old new caller now op answer
  pub told_as : IsToldAs answer told

-- a trace begins with what a pass has seen, and has just the calls of its caller that it made
abbrev pub StandsInTrace : List TraceLine → TracedPassState → Type 0
StandsInTrace trace pass = IsPrefix pass.seen trace × (lines_of pass.caller trace ≡ pass.made)

-- the lines are legal from the start to these files, unless the count of faults has come to its end, where it no longer rises
abbrev pub AreLinesLegal : Start → List TraceLine → FilesState → Outlook → Type 0
AreLinesLegal start lines now outlook = now.backing.faults < 18446744073709551615 → IsLegal (opening_at start) lines (present_of start.files.refused now outlook)

-- The lines lead from the start to these files. A volume that was sure then met no fault, or takes no more writing. What a cut leaves was seen.
pub record IsClosedHistory (start : Start) (lines : List TraceLine) (now : FilesState) (outlook : Outlook) : Type 0 where
  pub history : IsHistoryFrom start lines now
  pub sure : IsSureSince (opening_at start) now.backing.faults outlook
  pub left : HasLeftSeen start lines now

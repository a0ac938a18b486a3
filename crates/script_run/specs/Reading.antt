-- What a script does on a volume that may only be read: what each of its lines answers, the files that callers see, and the text that is printed.
use Rattle.std.specs.Prelude.{◌≡◌, ◌⊎◌, ℕ, ◌+◌, Bool, true, false, Option, Some, None, Err, List, [], ◌∷◌, ◌++◌, codes, get_or, replicate, set}
use Rattle.fs_model.specs.declared.backing_answers.Mode.TheVariants.{ReadOnly}
use Rattle.fs_model.specs.declared.op.Op.{Op}
use Rattle.fs_model.specs.declared.refusal.Cause.{Cause}
use Rattle.fs_model.specs.declared.refusal.Refusal.{Refusal}
use Rattle.fs_model.specs.declared.refusal.Refusal.TheVariants.{Erofs}
use Rattle.fs_model.specs.declared.reply.Reply.{Reply}
use Rattle.fs_model.specs.declared.reply.Reply.TheVariants.{Refused}
use Rattle.fs_model.specs.Files.{Files, Tree}
use Rattle.fs_model.specs.Legal.{read_only_cause}
use Rattle.fs_model.specs.Operation.{outcome_of}
use Rattle.fs_model.specs.Outcome.{Outcome}
use Rattle.buffered_files.specs.Alike.{IsAlike}
use Rattle.vfs_ops.specs.Steps.{IsDone}
use Rattle.script_text.specs.declared.part.Part.{Part}
use Rattle.script_text.specs.declared.part.Part.TheVariants.{Mount, Unmount, Now, Workers, Line}
use Rattle.script_text.specs.Reply.{mount_for_reading_line, reply_line}
use Rattle.text_lines.specs.Lines.{ended}

-- Where a script is: the files as callers see them, whether the volume is mounted, and the time. At each caller's number stands how many lines of it are behind the last line of another kind.
pub record Reading : Type 0 where
  pub files : Files
  pub mounted : Bool
  pub now : ℕ
  pub numbers : List ℕ

-- no caller has a line yet
abbrev pub no_numbers : List ℕ
no_numbers = replicate 17 0

-- the number of a caller's next line, and the numbers behind it
abbrev pub number_after : List ℕ → ℕ → ℕ
number_after numbers caller = get_or numbers caller 0 + 1

abbrev pub numbers_after : List ℕ → ℕ → List ℕ
numbers_after numbers caller = set numbers caller (number_after numbers caller)

-- a volume with this tree, which isn't mounted
abbrev pub reading_on : Tree → Reading
reading_on tree = record { files = record { tree = tree; handles = [] }; mounted = false; now = 0; numbers = no_numbers }

-- refused as read-only, if there is a cause
abbrev pub unless_closed : Option Cause → Outcome → Outcome
unless_closed None plain = plain
unless_closed (Some cause) plain = Err (Erofs cause)

-- The plain operation. What would change something is refused with the cause, before all else.
abbrev pub read_outcome : Cause → Reading → ℕ → Op → Outcome
read_outcome cause before caller op = unless_closed (read_only_cause (ReadOnly cause) op) (outcome_of before.files caller before.now op)

-- refused so, and the files are as before
pub record IsReadRefusal (cause : Cause) (before : Reading) (caller : ℕ) (op : Op) (reply : Reply) (after : Files) : Type 0 where
  pub refusal : Refusal
  pub why : read_outcome cause before caller op ≡ Err refusal
  pub told : reply ≡ Refused refusal
  pub same : IsAlike before.files after

-- What an operation answers, and the files then: but for zeros at the ends of blocks, which nobody sees, those that it leaves.
abbrev pub IsReadReply : Cause → Reading → ℕ → Op → Reply → Files → Type 0
IsReadReply cause before caller op reply after = IsDone (read_outcome cause before caller op) after reply ⊎ IsReadRefusal cause before caller op reply after

-- a caller's line: the reply to it, under the caller's next number
pub record IsReadServed (cause : Cause) (before : Reading) (caller : ℕ) (op : Op) (text : List ℕ) (after : Reading) : Type 0 where
  pub reply : Reply
  pub replied : IsReadReply cause before caller op reply after.files
  pub printed : text ≡ reply_line caller (number_after before.numbers caller) reply
  pub rest : after ≡ record before { files = after.files; numbers = numbers_after before.numbers caller }

-- what one line prints, and what it leaves; after an unmount nobody has a file open
abbrev pub IsReadPart : Cause → Reading → Part → List ℕ → Reading → Type 0
IsReadPart cause before Mount text after = (text ≡ mount_for_reading_line cause) × (after ≡ record before { mounted = true; numbers = no_numbers })
IsReadPart cause before Unmount text after =
    (text ≡ ended (codes "unmount unchanged")) × (after ≡ record before { files = record before.files { handles = [] }; mounted = false; numbers = no_numbers })
IsReadPart cause before (Now now) text after = (text ≡ []) × (after ≡ record before { now = now; numbers = no_numbers })
IsReadPart cause before (Workers count) text after = (text ≡ []) × (after ≡ record before { numbers = no_numbers })
IsReadPart cause before (Line caller op) text after = IsReadServed cause before caller op text after

-- The lines, one after another: the text of them all, and what the last one leaves.
abbrev pub IsReadRun : Cause → Reading → List Part → List ℕ → Reading → Type 0
IsReadRun cause before [] text after = (text ≡ []) × (after ≡ before)
IsReadRun cause before (part ∷ parts) text after =
    (line : List ℕ) × (next : Reading) × (rest : List ℕ) × IsReadPart cause before part line next × IsReadRun cause next parts rest after × (text ≡ line ++ rest)

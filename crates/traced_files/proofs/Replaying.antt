-- The files behind lines, replayed one after another.
use Rattle.std.proofs.Common.{◌≡◌, ℕ, false, List, [], ◌∷◌, ◌++◌, refl, sym}
use Rattle.std.proofs.lemmas.Bool.{false≢true}
use Rattle.std.proofs.lemmas.List.Sums.{fold-append}
use Rattle.fs_model.specs.declared.op.Op.{Op}
use Rattle.fs_model.specs.declared.refusal.Refusal.{Refusal}
use Rattle.fs_model.specs.declared.reply.Reply.{Reply}
use Rattle.fs_model.specs.declared.reply.Reply.TheVariants.{Refused}
use Rattle.fs_model.specs.declared.trace.TraceLine.{TraceLine}
use Rattle.fs_model.specs.Files.{Files}
use Rattle.fs_model.specs.Operation.{files_in, outcome_of}
use Rattle.vfs_ops.specs.Replies.{is_refusal}
use Rattle.traced_files.specs.History.{files_after_line, files_behind}

-- what a line's operation makes of the files before it
abbrev pub made_of : Files → TraceLine → Files
made_of files line = files_in files (outcome_of files line.caller line.now line.op)

-- one that is done leaves that
pub done_after : (files : Files) (line : TraceLine) → is_refusal line.reply ≡ false → files_after_line files line ≡ made_of files line
done_after files line plain = by line.caller line.number line.now line.op line.reply plain
  where
    by : (caller number now : ℕ) (op : Op) (reply : Reply) → is_refusal reply ≡ false → files_after_line files (record { caller = caller; number = number; now = now; op = op; reply = reply }) ≡ files_in files (outcome_of files caller now op)
    by caller number now op (Refused refusal) plain = absurd (false≢true (sym plain))
    by caller number now op reply plain = refl

-- one that is refused leaves the files
pub refused_after : (files : Files) (line : TraceLine) (refusal : Refusal) → line.reply ≡ Refused refusal → files_after_line files line ≡ files
refused_after files line refusal told = by line.caller line.number line.now line.op line.reply told
  where
    by : (caller number now : ℕ) (op : Op) (reply : Reply) → reply ≡ Refused refusal → files_after_line files (record { caller = caller; number = number; now = now; op = op; reply = reply }) ≡ files
    by caller number now op (Refused other) told = refl
    by caller number now op reply told = absurd cc

-- one line more
pub behind_on : (opening : Files) (lines : List TraceLine) (line : TraceLine) → files_behind opening (lines ++ line ∷ []) ≡ files_after_line (files_behind opening lines) line
behind_on opening lines line = fold-append files_after_line opening lines (line ∷ [])

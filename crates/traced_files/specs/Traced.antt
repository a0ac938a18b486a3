-- What holds of files whose lines are kept.
use Rattle.std.specs.Prelude.{◌≡◌, List}
use Rattle.atomic_table.specs.Seated.{TableId}
use Rattle.fs_model.specs.declared.trace.TraceLine.{TraceLine}
use Rattle.fs_model.specs.Backing.{Outlook}
use Rattle.trace_word.specs.States.{RecorderState}
use Rattle.vfs_ops.specs.FilesState.{FilesState}
use Rattle.traced_files.specs.History.{IsSureSince}
use Rattle.traced_files.specs.Seen.{HasLeftSeen}
use Rattle.traced_files.specs.Start.{IsHistoryFrom, Start, opening_at}

-- The recorder is of this word, and knows the lines. They lead from the start to the present files. What a cut leaves of these was seen.
pub record IsTraced (word : TableId) (start : Start) (now : FilesState) (outlook : Outlook) (recorder : RecorderState) (trace : List TraceLine) : Type 0 where
  pub of_word : recorder.word ≡ word
  pub seen : recorder.known.seen ≡ trace
  pub history : IsHistoryFrom start trace now
  pub sure : IsSureSince (opening_at start) now.backing.faults outlook
  pub left : HasLeftSeen start trace now

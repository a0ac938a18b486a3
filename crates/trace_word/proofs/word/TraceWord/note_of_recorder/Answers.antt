use Rattle.std.proofs.Common.{rules, ap}
use Rattle.atomic_table.specs.Table.{Me}
use Rattle.fs_model.specs.declared.trace.TraceLine.{TraceLine}
use Rattle.trace_word.specs.declared.view.TraceView.{TraceView}
use Rattle.trace_word.proofs.Moves.{notes_of_recorder}
use Rattle.trace_word.proofs.word.TraceWord.note_of_recorder.Goals as goal

pub split_seat-seat-requires : goal.split_seat-seat-requires
split_seat-seat-requires c = (search rules, search rules, notes_of_recorder _ c.recorder.inside.seat.me.0 _ (ap (λ (me : Me TraceLine TraceView). me.0) c.recorder.invariant))

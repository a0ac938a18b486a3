use Rattle.std.proofs.Common.{rules, ap}
use Rattle.atomic_table.specs.Table.{Me}
use Rattle.fs_model.specs.declared.trace.TraceLine.{TraceLine}
use Rattle.trace_word.specs.declared.view.TraceView.{TraceView}
use Rattle.trace_word.proofs.Moves.{tells_pass}
use Rattle.trace_word.proofs.word.TraceWord.tell_pass.Goals as goal

pub join_seat-requires : goal.join_seat-requires
join_seat-requires c = (
  search rules,
  search rules,
  search rules,
  search rules,
  tells_pass _ c.pass.inside.seat.me.0 _ _ c.note.inside.seat.me.0 _ (ap (λ (me : Me TraceLine TraceView). me.0) c.pass.invariant.0) (ap (λ (me : Me TraceLine TraceView). me.0) c.note.invariant.0) c.note.invariant.1,
)

use Rattle.std.proofs.Common.{rules, ap}
use Rattle.atomic_table.specs.Table.{Me}
use Rattle.fs_model.specs.declared.trace.TraceLine.{TraceLine}
use Rattle.trace_word.specs.declared.view.TraceView.{TraceView}
use Rattle.trace_word.proofs.Moves.{recorder_looks, recorder_told_as}
use Rattle.trace_word.proofs.word.TraceWord.look_as_recorder.Goals as goal

pub load-requires : goal.load-requires
load-requires c = (search rules, search rules, recorder_looks _ _ c.recorder.inside.seat.me _ c.recorder.invariant)

pub returns-clause-earlier : goal.returns-clause-earlier
returns-clause-earlier c = rw (← c.recorder.view_is) ((recorder_told_as c.recorder.inside.seat.me.0 (ap (λ (me : Me TraceLine TraceView). me.0) c.recorder.invariant) c.load.ensures.2.1).0)

pub returns-clause-others : goal.returns-clause-others
returns-clause-others c = rw (← c.recorder.view_is) ((recorder_told_as c.recorder.inside.seat.me.0 (ap (λ (me : Me TraceLine TraceView). me.0) c.recorder.invariant) c.load.ensures.2.1).1)

use Rattle.std.proofs.Common.{rules, ap}
use Rattle.atomic_table.specs.Table.{Me}
use Rattle.fs_model.specs.declared.trace.TraceLine.{TraceLine}
use Rattle.trace_word.specs.declared.view.TraceView.{TraceView}
use Rattle.trace_word.proofs.Moves.{pass_looks, pass_told_as}
use Rattle.trace_word.proofs.word.TraceWord.look_as_pass.Goals as goal

pub load-requires : goal.load-requires
load-requires c = (search rules, search rules, pass_looks _ _ c.pass.inside.seat.me _ c.pass.invariant.0)

pub returns-clause-seen : goal.returns-clause-seen
returns-clause-seen c = rw (← c.pass.view_is) ((pass_told_as c.pass.inside.seat.me.0 (ap (λ (me : Me TraceLine TraceView). me.0) c.pass.invariant.0) c.load.ensures.2.1 c.pass.invariant.1).0)

pub returns-clause-earlier : goal.returns-clause-earlier
returns-clause-earlier c = rw (← c.pass.view_is) ((pass_told_as c.pass.inside.seat.me.0 (ap (λ (me : Me TraceLine TraceView). me.0) c.pass.invariant.0) c.load.ensures.2.1 c.pass.invariant.1).1)

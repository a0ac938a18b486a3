use Rattle.std.proofs.Common.{rules}
use Rattle.script_phase.proofs.TraceLines.{IsToldOf, all_from}
use Rattle.script_phase.proofs.whole.are_told.Goals as goal

pub loop-line-preserved : goal.loop-line-preserved
loop-line-preserved c more = c.loop-line.invariant (all_from (IsToldOf c.args.callers) c.args.trace.now c.line-item.result c.loop-line.line-index (search rules) (search rules) (search (rules, more)))

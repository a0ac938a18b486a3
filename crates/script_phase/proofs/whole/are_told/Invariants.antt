use Rattle.std.proofs.Common.{All, drop}
use Rattle.script_phase.proofs.TraceLines.{IsToldOf}
use Rattle.script_phase.proofs.whole.are_told.Given as goal

abbrev pub invariant-loop-line : goal.invariant-loop-line
invariant-loop-line l = All (IsToldOf l.callers) (drop l.line-index l.trace) → All (IsToldOf l.callers) l.trace

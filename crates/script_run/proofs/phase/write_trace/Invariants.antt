use Rattle.std.proofs.Common.{◌≡◌, ◌++◌, drop}
use Rattle.script_run.specs.Phases.{trace_text}
use Rattle.script_run.proofs.phase.write_trace.Given as goal

abbrev pub invariant-loop-line : goal.invariant-loop-line
invariant-loop-line l = l.text.items ++ trace_text (drop l.line-index l.trace) ≡ l.fn.text.items ++ trace_text l.trace

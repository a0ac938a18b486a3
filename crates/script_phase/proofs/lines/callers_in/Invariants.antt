use Rattle.std.proofs.Common.{◌≡◌, ◌≤◌}
use Rattle.script_phase.specs.Phases.{callers_to}
use Rattle.script_phase.proofs.lines.callers_in.Given as goal

abbrev pub invariant-loop-index : goal.invariant-loop-index
invariant-loop-index l = (l.count ≡ callers_to l.index l.lines) × (l.count ≤ l.index)

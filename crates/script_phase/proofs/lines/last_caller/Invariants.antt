use Rattle.std.proofs.Common.{◌≡◌, max, drop}
use Rattle.script_phase.specs.Phases.{last_caller}
use Rattle.script_phase.proofs.lines.last_caller.Given as goal

abbrev pub invariant-loop-line : goal.invariant-loop-line
invariant-loop-line l = max l.last (last_caller (drop l.line-index l.lines)) ≡ last_caller l.lines

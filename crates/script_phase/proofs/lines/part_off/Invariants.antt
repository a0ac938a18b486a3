use Rattle.std.proofs.Common.{◌≡◌, ◌≢◌, ℕ, ◌++◌}
use Rattle.script_phase.specs.Phases.{ops_by}
use Rattle.script_phase.proofs.lines.part_off.Given as goal

abbrev pub invariant-loop-line : goal.invariant-loop-line
invariant-loop-line l =
    (l.yielded ++ l.line-iterator.rest.items ≡ l.fn.lines.items) × (l.ops.items ≡ ops_by l.caller l.yielded)
    × ((other : ℕ) → other ≢ l.caller → ops_by other l.rest.items ≡ ops_by other l.yielded)

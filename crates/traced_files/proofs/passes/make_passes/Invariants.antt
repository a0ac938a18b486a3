use Rattle.std.proofs.Common.{◌≡◌, ◌≤◌}
use Rattle.std.specs.Prelude.{vec_capacity}
use Rattle.traced_files.specs.States.{fresh_passes}
use Rattle.traced_files.proofs.passes.make_passes.Given as goal

abbrev pub invariant-loop-caller : goal.invariant-loop-caller
invariant-loop-caller l =
    (l.recorder.word ≡ l.word) × (l.recorder.known.seen ≡ l.fn.recorder.known.seen) × (l.recorder.passes ≡ l.caller) × (l.passes.items ≡ fresh_passes l.word l.pool l.caller) × (l.last ≤ vec_capacity l.passes)

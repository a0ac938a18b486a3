use Rattle.std.proofs.Common.{◌≡◌, ◌++◌, All}
use Rattle.traced_files.specs.Calls.{StandsInTrace}
use Rattle.traced_files.proofs.passes.meet_all.Given as goal

abbrev pub invariant-loop-pass : goal.invariant-loop-pass
invariant-loop-pass l =
    (l.recorder.word ≡ l.word) × (l.recorder.known.seen ≡ l.fn.recorder.known.seen) × (l.yielded ++ l.pass-iterator.rest.items ≡ l.fn.passes.items) × All (λ p. StandsInTrace l.fn.recorder.known.seen p) l.yielded

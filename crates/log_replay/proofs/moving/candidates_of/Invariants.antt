use Rattle.std.proofs.Common.{◌≡◌, ◌++◌, drop}
use Rattle.log_replay.specs.Moving.{candidates_of}
use Rattle.log_replay.proofs.moving.candidates_of.Given as goal

abbrev pub invariant-loop-read : goal.invariant-loop-read
invariant-loop-read l = l.candidates.items ++ candidates_of l.named (drop l.read-index l.settled) ≡ candidates_of l.named l.settled

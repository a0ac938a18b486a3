use Rattle.std.proofs.Common.{All}
use Rattle.fs_laws.specs.Sound.{IsCall}
use Rattle.caller_tests.proofs.jobs.ops_of.Given as goal

abbrev pub invariant-loop-letter : goal.invariant-loop-letter
invariant-loop-letter l = All IsCall l.ops.items

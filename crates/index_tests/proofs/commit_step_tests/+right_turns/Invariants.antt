use Rattle.std.proofs.Common.{length}
use Rattle.index_tests.proofs.commit_step_tests.+right_turns.Given as goal

abbrev pub decreases-right_turns : goal.decreases-right_turns
decreases-right_turns g l = length l.turns.now

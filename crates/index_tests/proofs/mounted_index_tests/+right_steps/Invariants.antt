use Rattle.std.proofs.Common.{length}
use Rattle.index_tests.proofs.mounted_index_tests.+right_steps.Given as goal

abbrev pub decreases-right_steps : goal.decreases-right_steps
decreases-right_steps g l = length l.steps.now

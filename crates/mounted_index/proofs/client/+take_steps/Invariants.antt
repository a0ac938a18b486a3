use Rattle.std.proofs.Common.{length}
use Rattle.mounted_index.proofs.client.+take_steps.Given as goal

abbrev pub decreases-take_steps : goal.decreases-take_steps
decreases-take_steps g l = length l.lebs.now

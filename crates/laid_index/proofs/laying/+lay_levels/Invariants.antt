use Rattle.std.proofs.Common.{length}
use Rattle.laid_index.proofs.laying.+lay_levels.Given as goal

abbrev pub decreases-lay_levels : goal.decreases-lay_levels
decreases-lay_levels g l = length l.siblings.now

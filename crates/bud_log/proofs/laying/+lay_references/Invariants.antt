use Rattle.std.proofs.Common.{length}
use Rattle.bud_log.proofs.laying.+lay_references.Given as goal

abbrev pub decreases-lay_references : goal.decreases-lay_references
decreases-lay_references l = length l.heads.now

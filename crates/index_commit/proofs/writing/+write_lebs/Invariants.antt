use Rattle.std.proofs.Common.{length}
use Rattle.index_commit.proofs.writing.+write_lebs.Given as goal

-- proposed from what the function passes where it calls itself
abbrev pub decreases-write_lebs : goal.decreases-write_lebs
decreases-write_lebs g l = length l.lebs.now

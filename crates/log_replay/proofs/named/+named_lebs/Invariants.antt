use Rattle.std.proofs.Common.{length}
use Rattle.log_replay.proofs.named.+named_lebs.Given as goal

abbrev pub decreases-named_lebs : goal.decreases-named_lebs
decreases-named_lebs l = length l.buds.now

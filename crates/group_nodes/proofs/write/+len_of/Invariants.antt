use Rattle.std.proofs.Common.{length}
use Rattle.group_nodes.proofs.write.+len_of.Given as goal

abbrev pub decreases-len_of : goal.decreases-len_of
decreases-len_of l = length l.changes.now

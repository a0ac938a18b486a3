use Rattle.std.proofs.Common.{length}
use Rattle.group_nodes.proofs.write.+write_from.Given as goal

abbrev pub decreases-write_from : goal.decreases-write_from
decreases-write_from l = length l.changes.now

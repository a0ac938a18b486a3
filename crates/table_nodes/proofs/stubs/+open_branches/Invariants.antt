use Rattle.std.proofs.Common.{length}
use Rattle.table_nodes.proofs.stubs.+open_branches.Given as goal

abbrev pub decreases-open_branches : goal.decreases-open_branches
decreases-open_branches l = length l.branches.now

use Rattle.std.proofs.Common.{length}
use Rattle.index_cache.proofs.writing.+push_branches.Given as goal

abbrev pub decreases-push_branches : goal.decreases-push_branches
decreases-push_branches l = length l.links.now

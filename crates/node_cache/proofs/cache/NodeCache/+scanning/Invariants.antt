use Rattle.std.proofs.Common.{◌+◌, ◌*◌, length}
use Rattle.node_cache.proofs.cache.NodeCache.+scanning.Given as goal

abbrev pub decreases-push_below : goal.decreases-push_below
decreases-push_below g l = l.level * 1024 + 600

abbrev pub decreases-push_among : goal.decreases-push_among
decreases-push_among g l = l.levels * 1024 + 2 * length l.branches.now

abbrev pub decreases-push_at : goal.decreases-push_at
decreases-push_at g l = l.levels * 1024 + 1

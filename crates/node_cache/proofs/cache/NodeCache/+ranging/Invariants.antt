use Rattle.std.proofs.Common.{◌+◌, ◌*◌, length}
use Rattle.node_cache.proofs.cache.NodeCache.+ranging.Given as goal

abbrev pub decreases-push_range_below : goal.decreases-push_range_below
decreases-push_range_below g l = l.level * 1024 + 600

abbrev pub decreases-push_range_among : goal.decreases-push_range_among
decreases-push_range_among g l = l.levels * 1024 + 2 * length l.branches.now

abbrev pub decreases-push_range_at : goal.decreases-push_range_at
decreases-push_range_at g l = l.levels * 1024 + 1

use Rattle.std.proofs.Common.{◌+◌, ◌*◌, length}
use Rattle.node_cache.proofs.cache.NodeCache.+following.Given as goal

abbrev pub decreases-after_below : goal.decreases-after_below
decreases-after_below g l = l.level * 1024 + 600

abbrev pub decreases-after_among : goal.decreases-after_among
decreases-after_among g l = l.levels * 1024 + 2 * length l.branches.now

abbrev pub decreases-after_at : goal.decreases-after_at
decreases-after_at g l = l.levels * 1024 + 1

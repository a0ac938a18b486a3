use Rattle.std.proofs.Common.{◌+◌, ◌*◌, length}
use Rattle.node_cache.proofs.cache.NodeCache.+ending.Given as goal

abbrev pub decreases-last_below : goal.decreases-last_below
decreases-last_below g l = l.level * 1024 + 600

abbrev pub decreases-last_among : goal.decreases-last_among
decreases-last_among g l = l.levels * 1024 + 2 * length l.branches.now

abbrev pub decreases-last_at : goal.decreases-last_at
decreases-last_at g l = l.levels * 1024 + 1

abbrev pub decreases-last_behind : goal.decreases-last_behind
decreases-last_behind g l = l.levels * 1024 + 2 * length l.branches.now + 1

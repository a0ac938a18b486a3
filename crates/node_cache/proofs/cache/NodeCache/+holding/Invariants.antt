use Rattle.std.proofs.Common.{◌+◌, ◌*◌, length}
use Rattle.node_cache.proofs.cache.NodeCache.+holding.Given as goal

abbrev pub decreases-holds_below : goal.decreases-holds_below
decreases-holds_below g l = l.level * 1024 + 600

abbrev pub decreases-holds_among : goal.decreases-holds_among
decreases-holds_among g l = l.levels * 1024 + 2 * length l.branches.now

abbrev pub decreases-holds_at : goal.decreases-holds_at
decreases-holds_at g l = l.levels * 1024 + 1

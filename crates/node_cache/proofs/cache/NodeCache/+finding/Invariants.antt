use Rattle.std.proofs.Common.{◌+◌, ◌*◌, length}
use Rattle.node_cache.proofs.cache.NodeCache.+finding.Given as goal

abbrev pub decreases-find_below : goal.decreases-find_below
decreases-find_below g l = l.level * 1024 + 600

abbrev pub decreases-find_among : goal.decreases-find_among
decreases-find_among g l = l.levels * 1024 + 2 * length l.branches.now

abbrev pub decreases-find_at : goal.decreases-find_at
decreases-find_at g l = l.levels * 1024 + 1

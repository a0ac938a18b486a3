use Rattle.std.proofs.Common.{◌+◌, ◌*◌, length}
use Rattle.node_table.proofs.volume_counting.+walking.Given as goal

abbrev pub decreases-count_below : goal.decreases-count_below
decreases-count_below g l = l.level * 512 + 300

abbrev pub decreases-count_among : goal.decreases-count_among
decreases-count_among g l = l.levels * 512 + length l.branches.now

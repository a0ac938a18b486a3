use Rattle.std.proofs.Common.{◌≡◌, map}
use Rattle.log_replay.specs.Reading.{read_told}
use Rattle.log_replay.proofs.reading.read_leaves.Given as goal

abbrev pub invariant-loop-leaf : goal.invariant-loop-leaf
invariant-loop-leaf l = l.reads.items ≡ map (read_told l.named l.ranked) l.yielded

use Rattle.std.proofs.Common.{◌≡◌}
use Rattle.log_replay.specs.Copies.{other_leaf_nodes}
use Rattle.log_replay.proofs.copies.others.Given as goal

abbrev pub invariant-loop-copy : goal.invariant-loop-copy
invariant-loop-copy l = l.left.items ≡ other_leaf_nodes l.content l.yielded

use Rattle.std.proofs.Common.{◌≡◌, ◌<◌}
use Rattle.leaf_check.proofs.committed.batch_of.Given as goal

-- so many leaves were counted, and their nodes have fewer bytes than are kept at once
abbrev pub invariant-loop-leaf : goal.invariant-loop-leaf
invariant-loop-leaf l = (l.count ≡ l.leaf-index) × (l.bytes < 4194304)

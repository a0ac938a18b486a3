use Rattle.std.proofs.Common.{◌≡◌, drop}
use Rattle.leaf_recovery.specs.Lost.{stands_for_told}
use Rattle.leaf_recovery.proofs.lost.stands_for.Given as goal

abbrev pub invariant-loop-node : goal.invariant-loop-node
invariant-loop-node l = stands_for_told (drop l.node-index l.names) l.leaf ≡ stands_for_told l.names l.leaf

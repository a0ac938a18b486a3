use Rattle.std.proofs.Common.{◌≡◌, drop}
use Rattle.leaf_recovery.specs.Lost.{has_name_told}
use Rattle.leaf_recovery.proofs.lost.has_name.Given as goal

abbrev pub invariant-loop-node : goal.invariant-loop-node
invariant-loop-node l = has_name_told (drop l.node-index l.nodes) l.content ≡ has_name_told l.nodes l.content

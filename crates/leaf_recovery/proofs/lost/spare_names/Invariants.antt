use Rattle.std.proofs.Common.{◌≡◌, ◌++◌, drop}
use Rattle.leaf_recovery.specs.Lost.{spare_names_told}
use Rattle.leaf_recovery.proofs.lost.spare_names.Given as goal

abbrev pub invariant-loop-node : goal.invariant-loop-node
invariant-loop-node l = l.names.items ++ spare_names_told l.references l.committed l.found (drop l.node-index l.nodes) ≡ spare_names_told l.references l.committed l.found l.nodes

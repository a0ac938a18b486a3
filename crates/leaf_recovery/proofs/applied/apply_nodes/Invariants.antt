use Rattle.std.proofs.Common.{◌≡◌, drop}
use Rattle.std.specs.Prelude.{fold}
use Rattle.leaf_recovery.specs.Applied.{kept_after_told}
use Rattle.leaf_recovery.proofs.applied.apply_nodes.Given as goal

abbrev pub invariant-loop-node : goal.invariant-loop-node
invariant-loop-node l = fold kept_after_told l.kept.items (drop l.node-index l.nodes) ≡ fold kept_after_told l.fn.kept.items l.nodes

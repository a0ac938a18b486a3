use Rattle.std.proofs.Common.{◌≡◌, ◌++◌, drop, map}
use Rattle.leaf_recovery.specs.Found.{found_leaves_told, lost_leaves_told}
use Rattle.leaf_recovery.specs.Lost.{lost_leaf_told}
use Rattle.leaf_recovery.proofs.found.find_leaves.Given as goal

abbrev pub invariant-loop-leaf : goal.invariant-loop-leaf
invariant-loop-leaf l = record {
  leaves : l.leaves.items ++ found_leaves_told l.references l.copies.items (drop l.leaf-index l.committed) ≡ found_leaves_told l.references l.fn.spare.items l.committed;
  lost : l.lost.items ++ map (lost_leaf_told l.references l.nodes) (lost_leaves_told l.references l.copies.items (drop l.leaf-index l.committed)) ≡ map (lost_leaf_told l.references l.nodes) (lost_leaves_told l.references l.fn.spare.items l.committed);
}

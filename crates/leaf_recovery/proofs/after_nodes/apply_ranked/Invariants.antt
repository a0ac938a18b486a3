use Rattle.std.proofs.Common.{length, List}
use Rattle.std.specs.Prelude.{fold}
use Rattle.leaf_recovery.specs.declared.recovered_leaf.RecoveredLeaf.{RecoveredLeaf}
use Rattle.leaf_recovery.specs.Applied.{kept_after_told}
use Rattle.leaf_recovery.specs.Ranked.{AreByRank, DoFitKeys}
use Rattle.leaf_recovery.proofs.Stepping.{StillByRank}
use Rattle.leaf_recovery.proofs.after_nodes.apply_ranked.Given as goal

-- the map has the leaves after the nodes so far
abbrev pub invariant-applying : goal.invariant-applying
invariant-applying l = (leaves : List RecoveredLeaf) → DoFitKeys l.nodes → AreByRank l.fn.ranked leaves → StillByRank l.ranked l.left (fold kept_after_told leaves l.nodes)

abbrev pub decreases-applying : goal.decreases-applying
decreases-applying l = length l.left

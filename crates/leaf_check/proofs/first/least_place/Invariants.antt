use Rattle.std.proofs.Common.{◌≡◌, ◌++◌, List, length}
use Rattle.index_tree.specs.declared.leaf.Leaf.{Leaf}
use Rattle.leaf_check.proofs.Firsts.{IsLeastOf}
use Rattle.leaf_check.proofs.first.least_place.Given as goal

-- the least of the leaves so far
abbrev pub invariant-looking : goal.invariant-looking
invariant-looking l = (done : List Leaf) × (done ++ l.left ≡ l.leaves) × IsLeastOf l.least done

abbrev pub decreases-looking : goal.decreases-looking
decreases-looking l = length l.left

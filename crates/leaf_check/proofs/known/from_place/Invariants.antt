use Rattle.std.proofs.Common.{◌≡◌, ◌++◌, List, length}
use Rattle.index_tree.specs.declared.leaf.Leaf.{Leaf}
use Rattle.leaf_check.proofs.known.from_place.Given as goal

-- those that were passed, and those that are left
abbrev pub invariant-passing : goal.invariant-passing
invariant-passing l = (before : List Leaf) × (l.known ≡ before ++ l.left)

abbrev pub decreases-passing : goal.decreases-passing
decreases-passing l = length l.left

use Rattle.std.proofs.Common.{◌≡◌, ◌++◌, List, length}
use Rattle.index_tree.specs.declared.leaf.Leaf.{Leaf}
use Rattle.image_check.specs.WrongValues.{IsFirstOf}
use Rattle.leaf_check.specs.Standings.{IsStandingWrong}
use Rattle.leaf_check.proofs.first.first_value.Given as goal

-- what is told first of the leaves so far
abbrev pub invariant-looking : goal.invariant-looking
invariant-looking l = (done : List Leaf) × (done ++ l.left ≡ l.wrong) × IsFirstOf (IsStandingWrong l.standing l.here done) l.first

abbrev pub decreases-looking : goal.decreases-looking
decreases-looking l = length l.left

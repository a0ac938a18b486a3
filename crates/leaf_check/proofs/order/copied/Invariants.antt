use Rattle.std.proofs.Common.{◌≡◌, ◌++◌, length}
use Rattle.std.specs.List.{AllByRecursion}
use Rattle.leaf_check.specs.Overlaps.{IsNarrow}
use Rattle.leaf_check.proofs.order.copied.Given as goal

-- the leaves so far
abbrev pub invariant-copying : goal.invariant-copying
invariant-copying l = (l.copies.items ++ l.left ≡ l.leaves) × AllByRecursion IsNarrow l.copies.items

abbrev pub decreases-copying : goal.decreases-copying
decreases-copying l = length l.left

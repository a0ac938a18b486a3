use Rattle.std.proofs.Common.{◌≡◌, ℕ, ◌||◌, length}
use Rattle.std.specs.Prelude.{is_some}
use Rattle.std.specs.BTreeMap.{get}
use Rattle.std.specs.List.{list_any}
use Rattle.std.specs.Ordering.{nat_cmp}
use Rattle.leaf_recovery.specs.Moved.{is_bare_told}
use Rattle.leaf_recovery.proofs.moved.staying.Given as goal

abbrev pub invariant-staying : goal.invariant-staying
invariant-staying l = (lnum : ℕ) → (is_some (get nat_cmp l.stays lnum) || list_any (is_bare_told l.copies lnum) l.left) ≡ list_any (is_bare_told l.copies lnum) l.fn.kept

abbrev pub decreases-staying : goal.decreases-staying
decreases-staying l = length l.left

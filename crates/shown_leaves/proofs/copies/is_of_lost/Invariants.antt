use Rattle.std.proofs.Common.{◌≡◌, drop}
use Rattle.std.specs.List.{list_any}
use Rattle.shown_leaves.specs.Copies.{is_lost_at}
use Rattle.shown_leaves.proofs.copies.is_of_lost.Given as goal

abbrev pub invariant-loop-leaf : goal.invariant-loop-leaf
invariant-loop-leaf l = list_any (is_lost_at l.references l.rank) (drop l.leaf-index l.committed) ≡ list_any (is_lost_at l.references l.rank) l.committed

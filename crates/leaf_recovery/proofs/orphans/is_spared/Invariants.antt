use Rattle.std.proofs.Common.{◌≡◌, drop}
use Rattle.std.specs.List.{list_any}
use Rattle.leaf_recovery.specs.Applied.{is_spared_by}
use Rattle.leaf_recovery.proofs.orphans.is_spared.Given as goal

abbrev pub invariant-loop-leaf : goal.invariant-loop-leaf
invariant-loop-leaf l = list_any (is_spared_by l.references l.ino) (drop l.leaf-index l.committed) ≡ list_any (is_spared_by l.references l.ino) l.committed

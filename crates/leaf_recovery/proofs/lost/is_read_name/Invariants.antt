use Rattle.std.proofs.Common.{◌≡◌, drop}
use Rattle.std.specs.List.{list_any}
use Rattle.leaf_recovery.specs.Lost.{reads_name_told}
use Rattle.leaf_recovery.proofs.lost.is_read_name.Given as goal

abbrev pub invariant-loop-leaf : goal.invariant-loop-leaf
invariant-loop-leaf l = list_any (reads_name_told l.references l.content) (drop l.leaf-index l.committed) ≡ list_any (reads_name_told l.references l.content) l.committed

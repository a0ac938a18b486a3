use Rattle.std.proofs.Common.{◌≡◌, map}
use Rattle.std.specs.Prelude.{is_some}
use Rattle.std.specs.BTreeMap.{get}
use Rattle.std.specs.Ordering.{nat_cmp}
use Rattle.leaf_recovery.specs.Moved.{moved_unless}
use Rattle.leaf_recovery.proofs.moved.move_others.Given as goal

abbrev pub invariant-loop-leaf : goal.invariant-loop-leaf
invariant-loop-leaf l = l.moved.items ≡ map (moved_unless l.references l.copies (λ lnum. is_some (get nat_cmp l.stays lnum))) l.yielded

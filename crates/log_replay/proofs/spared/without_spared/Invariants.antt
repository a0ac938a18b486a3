use Rattle.std.proofs.Common.{◌≡◌, ◌++◌, drop, not}
use Rattle.std.specs.Prelude.{filter, is_some}
use Rattle.std.specs.BTreeMap.{get}
use Rattle.std.specs.Ordering.{nat_cmp}
use Rattle.log_replay.proofs.spared.without_spared.Given as goal

abbrev pub invariant-loop-ino : goal.invariant-loop-ino
invariant-loop-ino l = l.left.items ++ filter (λ ino. not (is_some (get nat_cmp l.spared ino))) (drop l.ino-index l.listed) ≡ filter (λ ino. not (is_some (get nat_cmp l.spared ino))) l.listed

use Rattle.std.proofs.Common.{◌≡◌, ℕ, ◌||◌, length}
use Rattle.std.specs.Prelude.{is_some}
use Rattle.std.specs.BTreeMap.{get}
use Rattle.std.specs.List.{list_any}
use Rattle.std.specs.Ordering.{nat_cmp}
use Rattle.log_replay.specs.Spared.{is_spared_by_map}
use Rattle.log_replay.proofs.spared.spared_inodes.Given as goal

abbrev pub invariant-sparing : goal.invariant-sparing
invariant-sparing l = (q : ℕ) → (is_some (get nat_cmp l.spared q) || list_any (is_spared_by_map l.named q) l.left) ≡ list_any (is_spared_by_map l.named q) l.fn.leaves

abbrev pub decreases-sparing : goal.decreases-sparing
decreases-sparing l = length l.left

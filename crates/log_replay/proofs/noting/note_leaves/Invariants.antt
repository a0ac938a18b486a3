use Rattle.std.proofs.Common.{◌≡◌, List, map, length}
use Rattle.std.specs.List.{AllByRecursion}
use Rattle.leaf_map.specs.Kept.{Kept}
use Rattle.leaf_map.specs.LeafMap.{IsKeyed}
use Rattle.log_replay.specs.Told.{told_leaf}
use Rattle.log_replay.proofs.Noted.{Noted}
use Rattle.log_replay.proofs.noting.note_leaves.Given as goal

abbrev pub invariant-noting : goal.invariant-noting
invariant-noting l = record {
  noted : (kept : List Kept) → l.fn.found.items ≡ map told_leaf kept → AllByRecursion IsKeyed kept → Noted kept l.left.items l.standing;
  index : l.standing.index ≡ l.fn.standing.index;
}

abbrev pub decreases-noting : goal.decreases-noting
decreases-noting l = length l.left.items

use Rattle.std.proofs.Common.{◌≡◌, ◌≤◌, ℕ, ◌||◌, length}
use Rattle.std.specs.Prelude.{is_some}
use Rattle.std.specs.BTreeMap.{get}
use Rattle.std.specs.List.{list_any}
use Rattle.std.specs.Ordering.{nat_cmp}
use Rattle.index_tree.specs.Shape.{contents, shape_weight}
use Rattle.index_tree.specs.Tree.{shape}
use Rattle.log_replay.specs.Moving.{stays_in}
use Rattle.log_replay.proofs.moving.staying.Given as goal

abbrev pub invariant-staying : goal.invariant-staying
invariant-staying l = record {
  stay : (lnum : ℕ) → (is_some (get nat_cmp l.stays lnum) || list_any (stays_in (contents (shape l.fn.index.root)) lnum) l.left) ≡ list_any (stays_in (contents (shape l.fn.index.root)) lnum) l.fn.candidates;
  leaves : contents (shape l.index.root) ≡ contents (shape l.fn.index.root);
  weight : shape_weight l.fn.index.fanout (shape l.index.root) ≤ shape_weight l.fn.index.fanout (shape l.fn.index.root);
  fanout : l.index.fanout ≡ l.fn.index.fanout;
}

abbrev pub decreases-staying : goal.decreases-staying
decreases-staying l = length l.left

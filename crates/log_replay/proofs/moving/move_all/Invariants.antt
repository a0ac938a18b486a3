use Rattle.std.proofs.Common.{◌≡◌, ◌≤◌, length}
use Rattle.std.specs.Prelude.{fold, is_some}
use Rattle.std.specs.BTreeMap.{get}
use Rattle.std.specs.Ordering.{nat_cmp}
use Rattle.index_tree.specs.Shape.{contents, shape_weight}
use Rattle.index_tree.specs.Tree.{shape}
use Rattle.log_replay.specs.Moving.{moved_one}
use Rattle.log_replay.proofs.moving.move_all.Given as goal

abbrev pub invariant-moving : goal.invariant-moving
invariant-moving l = record {
  leaves : fold (moved_one (λ lnum. is_some (get nat_cmp l.stays lnum))) (contents (shape l.index.root)) l.left ≡ fold (moved_one (λ lnum. is_some (get nat_cmp l.stays lnum))) (contents (shape l.fn.index.root)) l.fn.candidates;
  weight : shape_weight l.fn.index.fanout (shape l.index.root) ≤ shape_weight l.fn.index.fanout (shape l.fn.index.root);
  fanout : l.index.fanout ≡ l.fn.index.fanout;
}

abbrev pub decreases-moving : goal.decreases-moving
decreases-moving l = length l.left

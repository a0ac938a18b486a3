use Rattle.std.proofs.Common.{List, length}
use Rattle.log_replay.specs.Changes.{IsHeavier}
use Rattle.log_replay.specs.Placing.{AreSettled, LeafFound}
use Rattle.log_replay.proofs.FromLast.{Placing}
use Rattle.log_replay.proofs.placing.place_leaves.Given as goal

abbrev pub invariant-placing : goal.invariant-placing
invariant-placing l = record {
  placing : (found : List LeafFound) → AreSettled found l.fn.standing l.fn.settled.items → Placing found l.left.items l.standing;
  weight : IsHeavier 0 l.fn.standing l.standing;
}

abbrev pub decreases-placing : goal.decreases-placing
decreases-placing l = length l.left.items

use Rattle.std.proofs.Common.{◌≡◌, ◌+◌, ◌≤◌, List, length}
use Rattle.std.specs.List.{AllByRecursion}
use Rattle.index_tree.specs.Shape.{shape_weight}
use Rattle.index_tree.specs.Tree.{shape}
use Rattle.leaf_map.specs.Kept.{Kept, Placed}
use Rattle.leaf_map.specs.Recovered.{leaves_after}
use Rattle.log_replay.specs.Changes.{HasBlockKey}
use Rattle.log_replay.specs.Standing.{StandsForLeaves}
use Rattle.log_replay.specs.Told.{AreNodesOf}
use Rattle.log_replay.proofs.Rounds.{Leads}
use Rattle.log_replay.proofs.nodes.apply_nodes.Given as goal

abbrev pub invariant-loop-node : goal.invariant-loop-node
invariant-loop-node l = record {
  keys : AllByRecursion HasBlockKey l.node-iterator.rest.items;
  stands : (kept : List Kept) (placed : List Placed) → AreNodesOf kept placed l.fn.nodes.items → StandsForLeaves kept l.fn.standing → Leads (leaves_after kept placed) l.standing l.node-iterator.rest.items;
  fanout : l.standing.index.fanout ≡ l.fn.standing.index.fanout;
  weight : shape_weight l.fn.standing.index.fanout (shape l.standing.index.root) + length l.node-iterator.rest.items ≤ shape_weight l.fn.standing.index.fanout (shape l.fn.standing.index.root) + length l.fn.nodes.items;
}

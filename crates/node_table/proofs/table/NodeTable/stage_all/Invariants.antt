use Rattle.std.proofs.Common.{◌≡◌, take, Ok, Option}
use Rattle.node_cache.specs.Kept.{AreKept}
use Rattle.node_cache.specs.Loaded.{IsReadOnlyCall}
use Rattle.node_table.specs.Changing.{changed_by, leaves_after_all}
use Rattle.table_nodes.specs.NodeView.{tree_at, leaves_at}
use Rattle.table_nodes.specs.Links.{AreNodesAdded}
use Rattle.table_nodes.specs.declared.node.Root.{Root}
use Rattle.node_table.specs.Staging.{IsSoundRoot}
use Rattle.node_table.specs.Unloaded.{DoesRootStand}
use Rattle.node_table.proofs.table.NodeTable.stage_all.Given as goal

abbrev pub invariant-loop-change : goal.invariant-loop-change
invariant-loop-change g l = record {
  made : tree_at l.self.nodes.items l.made ≡ changed_by l.fn.self.fanout (take l.change-index l.changes) (tree_at l.fn.self.nodes.items l.fn.root);
  leaves : leaves_at l.self.nodes.items l.made ≡ leaves_after_all (take l.change-index l.changes) (leaves_at l.fn.self.nodes.items l.fn.root);
  root : IsSoundRoot l.self.nodes.items l.made;
  added : AreNodesAdded l.fn.self.nodes.items l.self.nodes.items;
  stands : DoesRootStand (g.V.Volume.state l.volume) l.self.nodes.items l.made;
  fanout : l.self.fanout ≡ l.fn.self.fanout;
  reads : IsReadOnlyCall {T = Option Root} (g.V.Volume.state l.fn.volume) (g.V.Volume.state l.volume) (Ok l.made);
  kept : AreKept (g.V.Volume.state l.volume).holds l.cache;
}

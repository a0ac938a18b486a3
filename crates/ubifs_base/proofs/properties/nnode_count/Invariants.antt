use Rattle.std.proofs.Common.{◌≡◌, ◌≤◌, ◌*◌, ◌^◌}
use Rattle.ubifs_base.specs.Properties.{level_nodes, nnodes_up_to}
use Rattle.ubifs_base.proofs.properties.nnode_count.Given as goal

abbrev pub invariant-loop-below : goal.invariant-loop-below
invariant-loop-below l = record {
  level : l.level ≡ level_nodes l.pnodes l._below;
  low : l.level ≤ 2 ^ 30;
  total : l.count ≡ nnodes_up_to l.pnodes l._below;
  small : l.count ≤ l._below * 2 ^ 30;
}

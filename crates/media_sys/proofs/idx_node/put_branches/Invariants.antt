use Rattle.std.proofs.Common.{◌≡◌, ◌≤◌, ◌+◌, ◌*◌, [], length, drop}
use Rattle.std.specs.List.{flat_map}
use Rattle.node_fields.specs.Fields.{AllFit, spelling}
use Rattle.media_sys.specs.Index.{branch_fields}
use Rattle.media_sys.proofs.idx_node.put_branches.Given as goal

abbrev pub decreases-loop-left : goal.decreases-loop-left
decreases-loop-left l = l.left

abbrev pub invariant-loop-left : goal.invariant-loop-left
invariant-loop-left l = record {
  spelled : drop (4 + 20 * l.left) l.body ≡ spelling (flat_map branch_fields (drop l.left l.branches)) [];
  fits : AllFit (flat_map branch_fields (drop l.left l.branches));
  below : l.left ≤ length l.branches;
}

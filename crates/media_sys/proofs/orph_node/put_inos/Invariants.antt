use Rattle.std.proofs.Common.{◌≡◌, ◌≤◌, ◌+◌, ◌*◌, [], length, drop}
use Rattle.std.specs.List.{flat_map}
use Rattle.node_fields.specs.Fields.{AllFit, spelling}
use Rattle.media_sys.specs.Orphans.{ino_fields}
use Rattle.media_sys.proofs.orph_node.put_inos.Given as goal

abbrev pub decreases-loop-left : goal.decreases-loop-left
decreases-loop-left l = l.left

abbrev pub invariant-loop-left : goal.invariant-loop-left
invariant-loop-left l = record {
  spelled : drop (8 + 8 * l.left) l.body ≡ spelling (flat_map ino_fields (drop l.left l.inos)) [];
  fits : AllFit (flat_map ino_fields (drop l.left l.inos));
  below : l.left ≤ length l.inos;
}

use Rattle.std.proofs.Common.{◌≡◌, ◌+◌, ◌*◌, take, length}
use Rattle.std.specs.List.{flat_map}
use Rattle.ubifs_base.specs.RawOf.{raw_of}
use Rattle.media_lpt.specs.Nodes.{lprop_fields}
use Rattle.media_lpt.specs.Packed.{IsPut, IsFree}
use Rattle.media_lpt.proofs.pnode.put_props.Given as goal

abbrev pub invariant-loop-prop : goal.invariant-loop-prop
invariant-loop-prop l = record {
  put : IsPut l.fn.out l.bit (flat_map (lprop_fields (raw_of l.geo)) (take l.prop-index l.props)) l.out;
  free : IsFree l.out l.at;
  place : l.at ≡ l.bit + l.prop-index * l.step;
  long : length l.out ≡ length l.fn.out;
}

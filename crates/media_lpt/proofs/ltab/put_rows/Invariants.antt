use Rattle.std.proofs.Common.{◌≡◌, ◌+◌, ◌*◌, take, length}
use Rattle.std.specs.List.{flat_map}
use Rattle.ubifs_base.specs.RawOf.{raw_of}
use Rattle.media_lpt.specs.Nodes.{row_fields}
use Rattle.media_lpt.specs.Packed.{IsPut, IsFree}
use Rattle.media_lpt.proofs.ltab.put_rows.Given as goal

abbrev pub invariant-loop-row : goal.invariant-loop-row
invariant-loop-row l = record {
  put : IsPut l.fn.out 20 (flat_map (row_fields (raw_of l.geo)) (take l.row-index l.rows)) l.out;
  free : IsFree l.out l.at;
  place : l.at ≡ 20 + l.row-index * l.step;
  long : length l.out ≡ length l.fn.out;
}

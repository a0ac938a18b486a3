use Rattle.std.proofs.Common.{◌≡◌, ◌+◌, ◌*◌, length}
use Rattle.std.specs.List.{flat_map}
use Rattle.ubifs_base.specs.RawOf.{raw_of}
use Rattle.media_lpt.specs.Nodes.{row_fields}
use Rattle.media_lpt.specs.Packed.{IsAt}
use Rattle.media_lpt.proofs.ltab.get_rows.Given as goal

abbrev pub invariant-loop-row : goal.invariant-loop-row
invariant-loop-row l = record {
  at : IsAt l.bytes 20 (flat_map (row_fields (raw_of l.geo)) l.rows.items);
  place : l.at ≡ 20 + l._row * l.step;
  count : length l.rows.items ≡ l._row;
}

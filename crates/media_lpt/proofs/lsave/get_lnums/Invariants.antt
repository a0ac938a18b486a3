use Rattle.std.proofs.Common.{◌≡◌, ◌+◌, ◌*◌, length}
use Rattle.std.specs.List.{flat_map}
use Rattle.ubifs_base.specs.RawOf.{raw_of}
use Rattle.media_lpt.specs.Nodes.{lnum_fields}
use Rattle.media_lpt.specs.Packed.{IsAt}
use Rattle.media_lpt.proofs.lsave.get_lnums.Given as goal

abbrev pub invariant-loop-lnum : goal.invariant-loop-lnum
invariant-loop-lnum l = record {
  at : IsAt l.bytes 20 (flat_map (lnum_fields (raw_of l.geo)) l.lnums.items);
  place : l.at ≡ 20 + l._lnum * l.step;
  count : length l.lnums.items ≡ l._lnum;
}

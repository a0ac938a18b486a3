use Rattle.std.proofs.Common.{◌≡◌, ◌+◌, ◌*◌, take, length}
use Rattle.std.specs.List.{flat_map}
use Rattle.ubifs_base.specs.RawOf.{raw_of}
use Rattle.media_lpt.specs.Nodes.{lnum_fields}
use Rattle.media_lpt.specs.Packed.{IsPut, IsFree}
use Rattle.media_lpt.proofs.lsave.put_lnums.Given as goal

abbrev pub invariant-loop-lnum : goal.invariant-loop-lnum
invariant-loop-lnum l = record {
  put : IsPut l.fn.out 20 (flat_map (lnum_fields (raw_of l.geo)) (take l.lnum-index l.lnums)) l.out;
  free : IsFree l.out l.at;
  place : l.at ≡ 20 + l.lnum-index * l.step;
  long : length l.out ≡ length l.fn.out;
}

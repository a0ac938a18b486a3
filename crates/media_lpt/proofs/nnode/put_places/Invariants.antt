use Rattle.std.proofs.Common.{◌≡◌, ◌+◌, ◌*◌, take, length}
use Rattle.std.specs.List.{flat_map}
use Rattle.ubifs_base.specs.RawOf.{raw_of}
use Rattle.media_lpt.specs.Nodes.{place_fields}
use Rattle.media_lpt.specs.Packed.{IsPut, IsFree}
use Rattle.media_lpt.proofs.nnode.put_places.Given as goal

abbrev pub invariant-loop-place : goal.invariant-loop-place
invariant-loop-place l = record {
  put : IsPut l.fn.out l.bit (flat_map (place_fields (raw_of l.geo)) (take l.place-index l.places)) l.out;
  free : IsFree l.out l.at;
  place : l.at ≡ l.bit + l.place-index * l.step;
  long : length l.out ≡ length l.fn.out;
}

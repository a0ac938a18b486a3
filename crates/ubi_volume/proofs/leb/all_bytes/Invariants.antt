use Rattle.std.proofs.Common.{◌≡◌}
use Rattle.std.specs.Prelude.{slice_get}
use Rattle.ubi_volume.specs.Lebs.{bytes_in}
use Rattle.ubi_volume.specs.Volume.{image_of}
use Rattle.ubi_volume.proofs.leb.all_bytes.Given as goal

-- the bytes so far are those of the LEBs so far
abbrev pub invariant-loop-leb : goal.invariant-loop-leb
invariant-loop-leb l = l.bytes.items ≡ image_of (λ k. bytes_in (slice_get l.lebs k)) l.leb-index

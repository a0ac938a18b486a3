use Rattle.std.proofs.Common.{◌≡◌, arith}
use Rattle.std.specs.Prelude.{slice_get}
use Rattle.ubi_volume.specs.Lebs.{written_in}
use Rattle.volume_tests.proofs.small_areas_tests.written_master_is_the_latest.Goals as goal

pub write_master-requires-clause-first : goal.write_master-requires-clause-first
write_master-requires-clause-first c =
    let none : written_in (slice_get c.in_ok-volume.volume.lebs.items 1) ≡ 0 = c.in_ok-volume.ensures.blank.written 1 in
    λ place is. omega (arith, none)

pub write_master-requires-clause-second : goal.write_master-requires-clause-second
write_master-requires-clause-second c =
    let none : written_in (slice_get c.in_ok-volume.volume.lebs.items 2) ≡ 0 = c.in_ok-volume.ensures.blank.written 2 in
    λ place is. omega (arith, none)

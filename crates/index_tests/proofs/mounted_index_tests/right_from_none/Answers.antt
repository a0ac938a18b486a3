use Rattle.std.proofs.Common.{refl}
use Rattle.ubi_volume.specs.MemVolume.{state_of}
use Rattle.ubi_volume.specs.declared.mem_volume.VolShape.{VolShape}
use Rattle.index_tests.proofs.Steps.{begun}
use Rattle.index_tests.proofs.mounted_index_tests.right_from_none.Goals as goal

pub right_steps-right-requires : goal.right_steps-right-requires
right_steps-right-requires c =
    let shape : VolShape = record { leb_size = 16384; min_io = 512; leb_cnt = 74 } in
    begun c.in_ok-geometry.geometry shape (state_of c.in-Ok.volume) c.in-Ok-new.index 20 c.in_ok-geometry.ensures refl c.in-Ok.ensures.blank c.in-Ok-new.ensures.shown c.in-Ok-new.ensures.geometry

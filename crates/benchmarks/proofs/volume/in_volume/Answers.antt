use Rattle.std.proofs.Common.{◌∙◌, refl}
use Rattle.ubi_volume.specs.MemVolume.{state_of}
use Rattle.ubi_volume.specs.declared.mem_volume.VolShape.{VolShape}
use Rattle.benchmarks.proofs.OnVolume.{begun}
use Rattle.benchmarks.proofs.volume.in_volume.Goals as goal

pub fill-requires : goal.fill-requires
fill-requires c =
    let shape : VolShape = record { leb_size = 131072; min_io = 2048; leb_cnt = 650 } in
    record { standing = begun c.in_ok-geometry.geometry shape (state_of c.in_ok-volume.volume) c.in_ok-index.index 10 (c.in_ok-geometry.ensures.fields ∙ c.plain.ensures) refl c.in_ok-volume.ensures.blank c.in_ok-index.ensures.shown c.in_ok-index.ensures.geometry }

use Rattle.std.proofs.Common.{refl, []}
use Rattle.index_media.specs.KeyedRow.{no_more}
use Rattle.ubi_volume.specs.MemVolume.{state_of}
use Rattle.ubi_volume.specs.declared.mem_volume.VolShape.{VolShape}
use Rattle.index_tests.proofs.Steps.{begun, runs_from_none}
use Rattle.index_tests.proofs.commit_step_tests.right_from_empty.Goals as goal

pub right_turns-right-requires : goal.right_turns-right-requires
right_turns-right-requires c =
    let shape : VolShape = record { leb_size = 16384; min_io = 512; leb_cnt = 74 } in
    let a = state_of c.in-Ok.volume in
    let index = c.in-Ok-new.index in
    let none = begun c.in_ok-geometry.geometry shape a index 20 c.in_ok-geometry.ensures refl c.in-Ok.ensures.blank c.in-Ok-new.ensures.shown c.in-Ok-new.ensures.geometry in
    runs_from_none c.in_ok-geometry.geometry a index c.begin_commit.new.self 20 none
    (c.begin_commit.ensures.begun no_more [] c.in-Ok-new.ensures.shown (record { there = λ k given. absurd given; within = tt }) (λ k given. absurd given)) c.begin_commit.ensures.kept.geometry

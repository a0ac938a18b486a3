use Rattle.std.proofs.Common.{◌≡◌, ℕ, refl, ap, sym, ◌∙◌, arith}
use Rattle.ubi_volume.specs.MemVolume.{state_of}
use Rattle.ubifs_base.specs.declared.raw_geometry.RawGeometry.{RawGeometry}
use Rattle.journal_heads.specs.declared.heads.Heads.{Heads}
use Rattle.ubi_volume.specs.declared.mem_volume.VolShape.{VolShape}
use Rattle.journal_heads.specs.Heads.{attached}
use Rattle.volume_tests.proofs.TwoHeads.{blank_empty, two_open}
use Rattle.volume_tests.proofs.journal_heads_tests.each_head_writes_its_own_leb.Goals as goal

pub put-requires-clause-open_there : goal.put-requires-clause-open_there
put-requires-clause-open_there g c =
    let state = state_of c.in_ok-volume.volume in
    let blank = c.in_ok-volume.ensures.blank in
    let unit = c.in_ok-geo.geo.min_io in
    let size = c.in_ok-geo.geo.leb_size in
    let is_unit : unit ≡ 512 = ap (λ (r : RawGeometry). r.min_io) c.in_ok-geo.ensures.fields in
    let is_size : size ≡ 16384 = ap (λ (r : RawGeometry). r.leb_size) c.in_ok-geo.ensures.fields in
    let same = c.attach-2.ensures ∙ ap (λ (h : Heads). attached h 2 0) (c.attach.ensures ∙ ap (λ (h : Heads). attached h 1 2) c.in_ok-heads.ensures) in
    let shape : VolShape = record { leb_size = 16384; min_io = 512; leb_cnt = 3 } in
    two_open state unit size c.attach-2.new.self same (is_size ∙ sym blank.leb_size) (blank_empty shape state unit 2 blank is_unit refl (omega arith)) (blank_empty shape state unit 0 blank is_unit refl (omega arith))

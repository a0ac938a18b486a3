use Rattle.std.proofs.Common.{◌≡◌, ◌+◌, ◌-◌, ◌%◌, ◌<◌, [], length, take, ap, sym, ◌∙◌, arith}
use Rattle.std.specs.Prelude.{◌==◌, if◌then◌else◌}
use Rattle.std.proofs.lemmas.List.{take_all}
use Rattle.ubi_volume.specs.Volume.{filled}
use Rattle.ubi_volume.specs.MemVolume.{mem_of, state_of}
use Rattle.ubi_volume.specs.MemVolumeLaws.{leb_len_of}
use Rattle.ubi_volume.proofs.AfterCut.{left_behind, last_answer}
use Rattle.ubi_volume.proofs.client.read_after_cut.Goals as goal

pub returns-in_err-read-clause-fault : goal.returns-in_err-read-clause-fault
returns-in_err-read-clause-fault c =
    let answered = last_answer (mem_of c.in_ok-volume.volume) (mem_of c.write.new.self) (mem_of c.arm_cut.new.self) (mem_of c.change-struck.new.self) (mem_of c.revive.new.self) (mem_of c.read.new.self)
    _ _ c.args.pattern c.args.first.now c.args.second.now _ _ c.read.result c.in_ok-volume.ensures.no_past
    c.write.ensures.exact c.arm_cut.ensures.armed c.change-struck.ensures.exact c.revive.ensures.armed c.read.ensures.exact in
    grind (arith, answered, c.in_err-read.is)

pub returns-clause-read : goal.returns-clause-read
returns-clause-read c =
    let shape = c.args.shape in
    let armed = c.arm_cut.new.self in
    let end = c.revive.new.self in
    let blank = c.in_ok-volume.ensures.blank in
    let size : armed.shape.leb_size ≡ shape.leb_size = c.arm_cut.ensures.shape.leb_size ∙ c.write.ensures.answer.shape.leb_size ∙ blank.leb_size in
    let end_size : end.shape.leb_size ≡ shape.leb_size = c.revive.ensures.shape.leb_size ∙ c.change-struck.ensures.answer.shape.leb_size ∙ size in
    let count : end.shape.leb_cnt ≡ shape.leb_cnt =
    c.revive.ensures.shape.leb_cnt ∙ c.change-struck.ensures.answer.shape.leb_cnt ∙ c.arm_cut.ensures.shape.leb_cnt ∙ c.write.ensures.answer.shape.leb_cnt ∙ blank.leb_cnt in
    let inside : 0 < end.shape.leb_cnt = omega (arith, count, c.requires.lebs) in
    let left = left_behind (mem_of c.in_ok-volume.volume) (mem_of c.write.new.self) (mem_of armed) (mem_of c.change-struck.new.self) _ armed.shape.leb_size c.args.pattern
    c.args.first.now c.args.second.now _ _ c.in_ok-volume.ensures.no_past (blank.holds 0 c.requires.lebs ∙ ap (λ n. filled n []) (sym size))
    c.write.ensures.exact c.arm_cut.ensures.armed c.change-struck.ensures.exact in
    let holds = (state_of end).holds 0 in
    let bytes = if c.args.pattern % 4 == 1 then c.args.second.now else c.args.first.now in
    let all : take (length c.args.out.now) holds ≡ holds = take_all (length c.args.out.now) holds (omega (arith, leb_len_of end 0 inside, end_size, c.requires.out)) in
    let none : (0 + length c.args.out.now) - 0 ≡ length c.args.out.now = omega arith in
    c.in_ok-read.ensures.read ∙ ap (λ n. take n holds) none ∙ all ∙ c.revive.ensures.found.holds 0 inside ∙ left ∙ ap (λ n. filled n bytes) size

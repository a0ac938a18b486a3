use Rattle.std.proofs.Common.{◌≢◌, ◌+◌, arith}
use Rattle.ubifs_base.specs.NodeLaws.{IsBytes}
use Rattle.small_areas.specs.Copies.{copy_of, IsCopied, AreCopied, CopyUnderWay}
use Rattle.small_areas.proofs.BothCopies.{IsCall, works_one, works_two, both_copied}
use Rattle.small_areas.proofs.CopyRuns.{on_two, open_still}
use Rattle.small_areas.proofs.copies.write_copies.Goals as goal

pub returns-in_err-write_copy-clause-works : goal.returns-in_err-write_copy-clause-works
returns-in_err-write_copy-clause-works g c =
    let a = g.V.Volume.state c.args.volume.now in
    let b = g.V.Volume.state c.write_copy.new.volume in
    let first : IsCall a b 1 c.args.room (c.args.number + 1) c.args.master.now c.spell.new.node = record { spelling = c.spell.ensures.spelling; is_node = c.spell.ensures.is_node; works = c.write_copy.ensures.works } in
    works_one c.one_text.ensures c.one_node.ensures a b c.spell.new.node c.args.room c.args.number c.args.master.now c.requires.room (g.met.V.Volume.mapped_now c.args.volume.now) first

pub returns-clause-works : goal.returns-clause-works
returns-clause-works g c =
    let a = g.V.Volume.state c.args.volume.now in
    let b = g.V.Volume.state c.write_copy.new.volume in
    let e = g.V.Volume.state c.write_copy-2.new.volume in
    let first : IsCall a b 1 c.args.room (c.args.number + 1) c.args.master.now c.spell.new.node = record { spelling = c.spell.ensures.spelling; is_node = c.spell.ensures.is_node; works = c.write_copy.ensures.works } in
    let second : IsCall b e 2 c.args.room (c.args.number + 2) c.args.master.now c.spell-2.new.node = record { spelling = c.spell-2.ensures.spelling; is_node = c.spell-2.ensures.is_node; works = c.write_copy-2.ensures.works } in
    works_two c.one_text.ensures c.one_node.ensures a b e c.spell.new.node c.spell-2.new.node c.args.room c.args.number c.args.master.now c.requires.room (g.met.V.Volume.mapped_now c.args.volume.now) (g.met.V.Volume.mapped_now c.write_copy.new.volume) c.write_copy.ensures.shape.leb_size first c.in_ok-write_copy.ensures.done second

pub returns-clause-done : goal.returns-clause-done
returns-clause-done g c =
    let a = g.V.Volume.state c.args.volume.now in
    let b = g.V.Volume.state c.write_copy.new.volume in
    let e = g.V.Volume.state c.write_copy-2.new.volume in
    let first : IsCall a b 1 c.args.room (c.args.number + 1) c.args.master.now c.spell.new.node = record { spelling = c.spell.ensures.spelling; is_node = c.spell.ensures.is_node; works = c.write_copy.ensures.works } in
    let second : IsCall b e 2 c.args.room (c.args.number + 2) c.args.master.now c.spell-2.new.node = record { spelling = c.spell-2.ensures.spelling; is_node = c.spell-2.ensures.is_node; works = c.write_copy-2.ensures.works } in
    on_two c.write_copy-2.result (IsCopied b e 2 c.args.room (copy_of c.args.room c.spell-2.new.node)) (IsBytes (e.holds 2)) (AreCopied a e c.args.room c.args.number c.args.master.now)
    (λ done bytes. both_copied c.one_text.ensures c.one_node.ensures a b e c.spell.new.node c.spell-2.new.node c.args.room c.args.number c.args.master.now c.requires.room (g.met.V.Volume.mapped_now c.args.volume.now) c.write_copy.ensures.shape.leb_size first c.in_ok-write_copy.ensures.done c.in_ok-write_copy.ensures.bytes second done bytes)
    c.write_copy-2.ensures.done c.write_copy-2.ensures.bytes

pub write_copy-requires-2-clause-open : goal.write_copy-requires-2-clause-open
write_copy-requires-2-clause-open g c =
    let ne : 2 ≢ 1 = omega arith in
    open_still (g.V.Volume.state c.args.volume.now) (g.V.Volume.state c.write_copy.new.volume) 2 1 c.args.room (CopyUnderWay (g.V.Volume.state c.args.volume.now) 1 c.args.room (copy_of c.args.room c.spell.new.node)) ne c.write_copy.ensures.works c.requires.second

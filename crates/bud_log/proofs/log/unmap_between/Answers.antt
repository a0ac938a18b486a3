use Rattle.std.proofs.Common.{inl, inr, ◌∙◌, arith}
use Rattle.ubifs_base.specs.RawOf.{raw_of}
use Rattle.ubi_volume.specs.VolumeLaws.{SameShape-then}
use Rattle.bud_log.proofs.Ended.{is_between, unmapped_works, unmapped_next}
use Rattle.bud_log.proofs.log.unmap_between.Goals as goal

pub returns-in_err-unmap-clause-works : goal.returns-in_err-unmap-clause-works
returns-in_err-unmap-clause-works g c =
    let geo = raw_of c.args.geometry.now in
    let so_far = c.loop-lnum.invariant.0 in
    unmapped_works (g.V.Volume.state c.args.volume.now) (g.V.Volume.state c.loop-lnum.volume) (g.V.Volume.state c.unmap.new.self) geo c.args.from c.args.to c.loop-lnum.lnum so_far
    (is_between geo c.args.from c.args.to c.loop-lnum.lnum c.requires.from c.requires.to so_far.here so_far.way c.loop-lnum-test.true) c.unmap.ensures.works

pub loop-lnum-preserved : goal.loop-lnum-preserved
loop-lnum-preserved g c =
    let a = g.V.Volume.state c.args.volume.now in
    let b = g.V.Volume.state c.loop-lnum.volume in
    let e = g.V.Volume.state c.unmap.new.self in
    let geo = raw_of c.args.geometry.now in
    let first = c.loop-lnum.invariant.2 in
    let second = c.in_ok-unmap.ensures.cause in (
      unmapped_next a b e geo c.args.from c.args.to c.loop-lnum.lnum c.next_leb-lnum.result c.requires.from c.requires.to c.loop-lnum.invariant.0 c.loop-lnum-test.true c.unmap.ensures.works c.in_ok-unmap.ensures.done c.unmap.ensures.shape c.next_leb-lnum.ensures.next,
      SameShape-then a b e c.loop-lnum.invariant.1 c.unmap.ensures.shape,
      omega (arith, first, second),
      λ s. elim (c.loop-lnum.invariant.3 s) [
        | inl spent ↦ inl (c.unmap.ensures.works.spent spent)
        | inr still ↦ elim (c.unmap.ensures.sure still.0) [ inl spent ↦ inl spent | inr same ↦ inr (same.0, same.1.0 ∙ still.1) ]
      ],
    )

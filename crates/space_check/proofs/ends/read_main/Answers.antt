use Rattle.std.proofs.Common.{ℕ, ◌+◌, false, arith, ap, ◌∙◌}
use Rattle.ubifs_base.specs.RawOf.{raw_of}
use Rattle.ubi_volume.specs.VolumeLaws.{Keeps-then}
use Rattle.media_lpt.specs.declared.lprop.Lprop.{Lprop}
use Rattle.image_check.specs.KeptLaws.{kept_next, sure_of_one}
use Rattle.space_check.proofs.FreeEnds.{broken_here, ends_met, met_here}
use Rattle.space_check.proofs.ends.read_main.Goals as goal

pub returns-in-Some-clause-broken : goal.returns-in-Some-clause-broken
returns-in-Some-clause-broken g c =
    let old = g.V.Volume.state c.args.volume.now in
    let before = c.loop-at.invariant in
    let now = g.V.Volume.state c.loop-at.volume in
    let free = rw c.in-Some.is at c.in_ok-written.ensures.free in
    let first = rw c.in-Some.is at c.in_ok-written.ensures.some in
    let lnum = c.main_first-first.ensures in
    let done = c.loop-at-test.true in
    let count = c.main_lebs-at-end.ensures in
    let long = c.requires.props in
    let none : Lprop = record { free = 0; dirty = 0; index = false } in
    broken_here old now (raw_of c.args.geometry.now) c.args.master.now c.args.props.now c.loop-at.at (c.main_first-first.result + c.loop-at.at) none c.in-Some.written (ap (λ (n : ℕ). n + c.loop-at.at) lnum) (omega (arith, done, count, long)) before.ends before.kept free first

pub returns-in-Some-clause-keeps : goal.returns-in-Some-clause-keeps
returns-in-Some-clause-keeps g c = Keeps-then _ _ _ c.loop-at.invariant.kept.keeps c.written_end.ensures.keeps

pub loop-at-preserved : goal.loop-at-preserved
loop-at-preserved g c =
    let old = g.V.Volume.state c.args.volume.now in
    let now = g.V.Volume.state c.loop-at.volume in
    let new = g.V.Volume.state c.written_end.new.volume in
    let before = c.loop-at.invariant in
    let here = rw c.in_default.is at c.in_ok-written.ensures.none in
    let lnum = c.main_first-first.ensures in
    let done = c.loop-at-test.true in
    let count = c.main_lebs-at-end.ensures in
    let long = c.requires.props in
    let none : Lprop = record { free = 0; dirty = 0; index = false } in
    record {
      ends = met_here old now (raw_of c.args.geometry.now) c.args.master.now c.args.props.now c.loop-at.at (c.main_first-first.result + c.loop-at.at) none (ap (λ (n : ℕ). n + c.loop-at.at) lnum) (omega (arith, done, count, long)) before.ends before.kept here;
      kept = kept_next old now new before.kept c.written_end.ensures.keeps c.written_end.ensures.shape c.in_ok-written.ensures.cause (sure_of_one now new c.written_end.result c.written_end.ensures.sure);
      len = c.written_end.ensures.len ∙ before.len;
    }

pub returns-clause-met : goal.returns-clause-met
returns-clause-met g c =
    let old = g.V.Volume.state c.args.volume.now in
    let done = c.loop-at-test.false in
    let count = c.main_lebs-at-end.ensures in
    let long = c.requires.props in
    ends_met old.holds (raw_of c.args.geometry.now) c.args.master.now c.args.props.now c.loop-at.at (omega (arith, done, count, long)) c.loop-at.invariant.ends

use Rattle.std.proofs.Common.{◌-◌, ◌∙◌, arith, inl, inr, rules, sym}
use Rattle.std.proofs.lemmas.Grind
use native.Mathlib.Omega
use Rattle.ubi_volume.specs.VolumeLaws.{Keeps-then, SameShape-then}
use Rattle.ubifs_base.specs.Areas.{lpt_first}
use Rattle.ubifs_base.specs.RawOf.{raw_of}
use Rattle.lpt_area.specs.KeptLaws.{kept_next, kept_start, sure_of_one}
use Rattle.image_check.proofs.AreaLebs.{area_is, area_next, area_start}
use Rattle.image_check.proofs.properties.read_area.Goals as goal

pub loop-lnum-init : goal.loop-lnum-init
loop-lnum-init g c =
    let old = g.V.Volume.state c.args.volume.now in
    let first = c.lpt_first-lnum.ensures in
    record {
      low = omega (arith, first);
      high = omega (arith, first);
      bytes = area_start old.holds (lpt_first (raw_of c.args.geometry.now)) c.lpt_first-lnum.result c.new-area.result.items c.new-area.ensures.items first;
      kept = kept_start old;
      len = c.requires.whole;
    }

pub loop-lnum-preserved : goal.loop-lnum-preserved
loop-lnum-preserved g c =
    let geo = raw_of c.args.geometry.now in
    let old = g.V.Volume.state c.args.volume.now in
    let now = g.V.Volume.state c.loop-lnum.volume in
    let new = g.V.Volume.state c.read_leb.new.volume in
    let before = c.loop-lnum.invariant in
    let low = before.low in
    let end = c.orph_first-lnum-end.ensures in
    let more = c.loop-lnum-test.true in
    let bytes = c.in_ok-read_leb.ensures.read ∙ before.kept.keeps.holds c.loop-lnum.lnum in
    record {
      low = omega (arith, low);
      high = omega (arith, more, end);
      bytes = area_next old.holds (lpt_first geo) c.loop-lnum.lnum c.loop-lnum.area.items c.read_leb.new.out c.extend_from_slice.new.self.items low before.bytes bytes (search (rules, c.in_ok-extend_from_slice.ensures.items));
      kept = kept_next old now new before.kept c.read_leb.ensures.keeps c.read_leb.ensures.shape c.in_ok-read_leb.ensures.cause (sure_of_one now new c.read_leb.result c.read_leb.ensures.sure);
      len = search rules;
    }

pub returns-clause-area : goal.returns-clause-area
returns-clause-area g c =
    let geo = raw_of c.args.geometry.now in
    let old = g.V.Volume.state c.args.volume.now in
    let before = c.loop-lnum.invariant in
    let low = before.low in
    let high = before.high in
    let end = c.orph_first-lnum-end.ensures in
    let done = c.loop-lnum-test.false in
    let count = c.requires.geometry.leb_cnt in
    let least = c.args.geometry.now.in_range.leb_cnt in
    area_is geo old.holds (c.loop-lnum.lnum - lpt_first geo) c.loop-lnum.area.items (λ k less. g.met.V.Volume.leb_len c.args.volume.now k (omega (arith, less, count, least)) ∙ sym c.requires.geometry.leb_size) (omega (arith, low, high, done, end)) before.bytes

pub returns-in_err-read_leb-clause-area : goal.returns-in_err-read_leb-clause-area
returns-in_err-read_leb-clause-area g c = grind (Omega.arith, Grind.common_steps) steps 2000000

pub returns-in_err-read_leb-clause-keeps : goal.returns-in_err-read_leb-clause-keeps
returns-in_err-read_leb-clause-keeps g c = Keeps-then _ _ _ c.loop-lnum.invariant.kept.keeps c.read_leb.ensures.keeps

pub returns-in_err-read_leb-clause-shape : goal.returns-in_err-read_leb-clause-shape
returns-in_err-read_leb-clause-shape g c = SameShape-then _ _ _ c.loop-lnum.invariant.kept.shape c.read_leb.ensures.shape

pub returns-in_err-read_leb-clause-cause : goal.returns-in_err-read_leb-clause-cause
returns-in_err-read_leb-clause-cause g c = grind (Omega.arith, Grind.common_steps) steps 2000000

pub returns-in_err-read_leb-clause-sure : goal.returns-in_err-read_leb-clause-sure
returns-in_err-read_leb-clause-sure g c = grind (Omega.arith, Grind.common_steps) steps 2000000

pub returns-in_err-extend_from_slice-clause-area : goal.returns-in_err-extend_from_slice-clause-area
returns-in_err-extend_from_slice-clause-area g c = grind (Omega.arith, Grind.common_steps) steps 2000000

pub returns-in_err-extend_from_slice-clause-keeps : goal.returns-in_err-extend_from_slice-clause-keeps
returns-in_err-extend_from_slice-clause-keeps g c = Keeps-then _ _ _ c.loop-lnum.invariant.kept.keeps c.read_leb.ensures.keeps

pub returns-in_err-extend_from_slice-clause-shape : goal.returns-in_err-extend_from_slice-clause-shape
returns-in_err-extend_from_slice-clause-shape g c = SameShape-then _ _ _ c.loop-lnum.invariant.kept.shape c.read_leb.ensures.shape

pub returns-in_err-extend_from_slice-clause-cause : goal.returns-in_err-extend_from_slice-clause-cause
returns-in_err-extend_from_slice-clause-cause g c = grind (Omega.arith, Grind.common_steps) steps 2000000

pub returns-in_err-extend_from_slice-clause-sure : goal.returns-in_err-extend_from_slice-clause-sure
returns-in_err-extend_from_slice-clause-sure g c = grind (Omega.arith, Grind.common_steps) steps 2000000

pub returns-clause-keeps : goal.returns-clause-keeps
returns-clause-keeps g c = c.loop-lnum.invariant.kept.keeps

pub returns-clause-shape : goal.returns-clause-shape
returns-clause-shape g c = c.loop-lnum.invariant.kept.shape

pub returns-clause-cause : goal.returns-clause-cause
returns-clause-cause g c = c.loop-lnum.invariant.kept.count

pub returns-clause-sure : goal.returns-clause-sure
returns-clause-sure g c = λ s. elim (c.loop-lnum.invariant.kept.sure s) [ inl gone ↦ inl gone | inr fine ↦ inr (fine.0, (fine.1, tt)) ]

use Rattle.std.proofs.Common.{arith, rules, ◌∙◌}
use Rattle.ubifs_base.specs.RawOf.{raw_of}
use Rattle.lpt_area.specs.KeptLaws.{kept_next, kept_start, sure_of_one}
use Rattle.image_check.proofs.OrphanArea.{area_broken, lists_next, lists_start}
use Rattle.image_check.proofs.orphan_lists.read_lists.Goals as goal

pub loop-lnum-init : goal.loop-lnum-init
loop-lnum-init g c =
    let old = g.V.Volume.state c.args.volume.now in
    record { lists = lists_start old.holds (raw_of c.args.geometry.now) c.orph_first-lnum.result c.orph_first-lnum.ensures; kept = kept_start old; len = c.requires.whole }

pub loop-lnum-preserved : goal.loop-lnum-preserved
loop-lnum-preserved g c =
    let old = g.V.Volume.state c.args.volume.now in
    let now = g.V.Volume.state c.loop-lnum.volume in
    let new = g.V.Volume.state c.read_leb.new.volume in
    let before = c.loop-lnum.invariant in
    let bytes = c.in_ok-read_leb.ensures.read ∙ before.kept.keeps.holds c.loop-lnum.lnum in
    record {
      lists = lists_next old.holds (raw_of c.args.geometry.now) c.loop-lnum.lnum c.read_leb.new.out bytes before.lists c.in_default.ensures.none;
      kept = kept_next old now new before.kept c.read_leb.ensures.keeps c.read_leb.ensures.shape c.in_ok-read_leb.ensures.cause (sure_of_one now new c.read_leb.result c.read_leb.ensures.sure);
      len = search rules;
    }

pub returns-in-Some-clause-broken : goal.returns-in-Some-clause-broken
returns-in-Some-clause-broken g c =
    let old = g.V.Volume.state c.args.volume.now in
    let before = c.loop-lnum.invariant in
    let bytes = c.in_ok-read_leb.ensures.read ∙ before.kept.keeps.holds c.loop-lnum.lnum in
    let count = c.requires.geometry.leb_cnt in
    let least = c.args.geometry.now.in_range.leb_cnt in
    let first = c.orph_first-lnum.ensures in
    let end = c.main_first-lnum-end.ensures in
    let from = c.loop-lnum.auto.lnum in
    let low = c.loop-lnum-test.true in
    area_broken c.one_text.ensures old.holds (raw_of c.args.geometry.now) c.read_leb.new.out c.loop-lnum.lnum c.in-Some.foreign.offs c.in-Some.foreign.kind bytes (omega (arith, from, first)) (omega (arith, low, end))
    (λ k less. g.met.V.Volume.leb_bytes c.args.volume.now k (omega (arith, less, count, least))) before.lists c.in-Some.ensures.some

pub returns-clause-met : goal.returns-clause-met
returns-clause-met g c =
    let done = c.loop-lnum-test.false in
    let end = c.main_first-lnum-end.ensures in
    λ k low high. c.loop-lnum.invariant.lists k low (omega (arith, high, done, end))

use Rattle.image_check.specs.KeptLaws.{kept_next, sure_of_area}
use Rattle.bud_check.proofs.ReadBuds.{no_more, read_end, read_next, read_start}
use Rattle.bud_check.proofs.reads.read_buds.Goals as goal

pub reading-init : goal.reading-init
reading-init g c = read_start (g.V.Volume.state c.args.volume.now) c.args.buds.now _ c.new-texts.ensures.items c.requires

pub reading-preserved : goal.reading-preserved
reading-preserved g c =
    let old = g.V.Volume.state c.args.volume.now in
    let now = g.V.Volume.state c.reading.volume in
    let new = g.V.Volume.state c.read_bud.new.volume in
    let before = c.reading.invariant in
    read_next old now new c.reading.left.now c.args.buds.now c.in-Some.bud.now c.in-Some.rest.now c.reading.texts.items c.push.new.self.items c.in_ok-text.text c.in-Some.ensures.cases.0 c.in_ok-text.ensures.text c.in_ok-push.ensures.items before
    (kept_next old now new before.kept c.read_bud.ensures.keeps c.read_bud.ensures.shape c.in_ok-text.ensures.cause (sure_of_area now new c.read_bud.result c.read_bud.ensures.sure))

pub returns-clause-texts : goal.returns-clause-texts
returns-clause-texts g c = read_end (g.V.Volume.state c.args.volume.now) (g.V.Volume.state c.reading.volume) c.reading.left.now c.args.buds.now c.reading.texts.items (no_more c.reading.left.now c.in_default.ensures.cases) c.reading.invariant

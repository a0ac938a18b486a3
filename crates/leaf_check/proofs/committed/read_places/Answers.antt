use Rattle.image_check.specs.KeptLaws.{kept_next, sure_of_area}
use Rattle.leaf_check.proofs.CommittedLeaves.{no_more, places_end, places_next, places_start}
use Rattle.leaf_check.proofs.committed.read_places.Goals as goal

pub reading-init : goal.reading-init
reading-init g c = places_start (g.V.Volume.state c.args.volume.now) c.args.leaves.now _ c.new-reads.ensures.items

pub reading-preserved : goal.reading-preserved
reading-preserved g c =
    let old = g.V.Volume.state c.args.volume.now in
    let now = g.V.Volume.state c.reading.volume in
    let new = g.V.Volume.state c.read_bytes.new.volume in
    let i = c.reading.invariant in
    places_next old now new c.reading.left.now c.args.leaves.now c.in-Some.leaf.now c.in-Some.rest.now c.reading.reads.items c.push.new.self.items c.in_ok-read.read c.in-Some.ensures.cases.0 c.in_ok-read.ensures.read c.in_ok-push.ensures.items i
    (kept_next old now new i.kept c.read_bytes.ensures.keeps c.read_bytes.ensures.shape c.in_ok-read.ensures.cause (sure_of_area now new c.read_bytes.result c.read_bytes.ensures.sure))

pub returns-clause-read : goal.returns-clause-read
returns-clause-read g c = places_end (g.V.Volume.state c.args.volume.now) (g.V.Volume.state c.reading.volume) c.reading.left.now c.args.leaves.now c.reading.reads.items (no_more c.reading.left.now c.in_default.ensures.cases) c.reading.invariant

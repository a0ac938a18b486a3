use Rattle.std.proofs.Common.{arith}
use Rattle.leaf_check.proofs.WholeLeaves.{whole_most, whole_nowhere}
use Rattle.leaf_check.proofs.reading.has_place.Goals as goal

pub returns-then-leaf-leb_cnt-clause-no : goal.returns-then-leaf-leb_cnt-clause-no
returns-then-leaf-leb_cnt-clause-no g c = λ no.
    let past = c.if-leaf-leb_cnt.true in
    let count = c.leb_cnt.ensures in
    whole_nowhere (g.V.Volume.state c.args.volume.now).holds c.args.leaf.now (g.met.V.Volume.none c.args.volume.now c.args.leaf.now.lnum (omega (arith, past, count)))

pub returns-then-leaf-gt-MOST_BYTES-clause-no : goal.returns-then-leaf-gt-MOST_BYTES-clause-no
returns-then-leaf-gt-MOST_BYTES-clause-no g c = λ no there.
    let most = whole_most (g.V.Volume.state c.args.volume.now).holds c.args.leaf.now there in
    let over = c.if-leaf-gt-MOST_BYTES.true in
    absurd (omega (arith, most, over))

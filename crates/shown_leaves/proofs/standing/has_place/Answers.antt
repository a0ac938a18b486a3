use Rattle.std.proofs.Common.{arith}
use Rattle.shown_leaves.proofs.StandingNodes.{nowhere, placed_most}
use Rattle.shown_leaves.proofs.standing.has_place.Goals as goal

pub returns-then-source-leb_cnt-clause-no : goal.returns-then-source-leb_cnt-clause-no
returns-then-source-leb_cnt-clause-no g c = λ no node from placed.
    let past = c.if-source-leb_cnt.true in
    let count = c.leb_cnt.ensures in
    nowhere (g.V.Volume.state c.args.volume.now).holds c.args.source node from placed (g.met.V.Volume.none c.args.volume.now c.args.source.lnum (omega (arith, past, count)))

pub returns-then-source-gt-MOST_BYTES-clause-no : goal.returns-then-source-gt-MOST_BYTES-clause-no
returns-then-source-gt-MOST_BYTES-clause-no g c = λ no node from placed.
    let most = placed_most (g.V.Volume.state c.args.volume.now).holds c.args.source node from placed in
    let over = c.if-source-gt-MOST_BYTES.true in
    absurd (omega (arith, most, over))

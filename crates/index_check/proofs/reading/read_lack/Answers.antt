use Rattle.std.proofs.Common.{arith}
use Rattle.index_check.proofs.Fronts.{lack_behind}
use Rattle.index_check.proofs.StandingNodes.{lack_past}
use Rattle.index_check.proofs.reading.read_lack.Goals as goal

pub returns-then-branch-leb_cnt-clause-lack : goal.returns-then-branch-leb_cnt-clause-lack
returns-then-branch-leb_cnt-clause-lack g c =
    let past = c.if-branch-leb_cnt.true in
    let count = c.leb_cnt.ensures in
    lack_past (g.V.Volume.state c.args.volume.now).holds c.args.branch.now (g.met.V.Volume.none c.args.volume.now c.args.branch.now.lnum (omega (arith, past, count)))

pub returns-then-branch-size-clause-lack : goal.returns-then-branch-size-clause-lack
returns-then-branch-size-clause-lack g c =
    let past = c.if-branch-size.true in
    let size = c.leb_size-size.ensures in
    let less = c.if-branch-leb_cnt.false in
    let count = c.leb_cnt.ensures in
    let long = g.met.V.Volume.leb_len c.args.volume.now c.args.branch.now.lnum (omega (arith, less, count)) in
    lack_behind (g.V.Volume.state c.args.volume.now).holds c.args.branch.now (omega (arith, past, size, long))

use Rattle.std.proofs.Common.{rules, refl, ◌≡◌, ap, ◌*◌, arith, ◌≢◌}
use Rattle.ubifs_base.specs.Properties.{quarter, nnode_len}
use Rattle.ubifs_base.specs.RawOf.{raw_of}
use Rattle.lpt_area.specs.Laid.{places}
use Rattle.lpt_area.proofs.LaidItems.{one_more_fits}
use Rattle.lpt_area.proofs.LevelSteps.{nnodes_next, level_start}
use Rattle.lpt_area.proofs.levels.lay_nnodes.Goals as goal

pub loop-i-init : goal.loop-i-init
loop-i-init c = level_start (raw_of c.args.geo.now) c.args.lnum (places c.args.lnum c.args.below.now.offs c.args.below.now.len c.args.below.now.count) c.args.out.now _ _

pub loop-i-preserved : goal.loop-i-preserved
loop-i-preserved c =
    let geo = raw_of c.args.geo.now in
    let b = c.args.below.now in
    let len = c.nnode_len-len.ensures in
    let low = c.requires.low in
    let some : c.args.lnum ≢ 0 = omega (arith, low) in
    let count : c.div_ceil-count.result ≡ quarter b.count = search (rules, c.div_ceil-count.ensures) in
    let one = one_more_fits c.loop-i.i (quarter b.count) (nnode_len geo) (omega (arith, c.loop-i-test.true, count)) in
    let room = c.requires.room in
    let at : c.loop-i.i * c.nnode_len-len.result ≡ c.loop-i.i * nnode_len geo = ap (λ n. c.loop-i.i * n) len in
    let long = c.loop-i.invariant.grown.size in
    let size = c.requires.size in
    nnodes_next geo c.args.lnum (places c.args.lnum b.offs b.len b.count) c.args.out.now c.loop-i.out c.lay_nnode.new.out _ c.nnode_len-len.result c.loop-i.i _ c.nnode_of-node.result c.lay_nnode.ensures refl len
    c.nnode_of-node.ensures.says (omega (arith, at, one, room, long, size)) some c.loop-i.invariant

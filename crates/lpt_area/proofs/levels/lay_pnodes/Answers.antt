use Rattle.std.proofs.Common.{ap, ◌∙◌, ◌*◌, arith}
use Rattle.ubifs_base.specs.Properties.{pnode_len, pnode_count}
use Rattle.ubifs_base.specs.RawOf.{raw_of}
use Rattle.lpt_area.specs.Laid.{past_main}
use Rattle.lpt_area.specs.Tree.{HasPnode, empty_leb}
use Rattle.lpt_area.proofs.LaidItems.{one_more_fits}
use Rattle.lpt_area.proofs.LevelSteps.{pnodes_next, no_row}
use Rattle.lpt_area.proofs.levels.lay_pnodes.Goals as goal

pub loop-i-init : goal.loop-i-init
loop-i-init c = (λ lnum some. no_row (HasPnode (raw_of c.args.geo.now)) (empty_leb (raw_of c.args.geo.now)) _ past_main lnum 0 (pnode_len (raw_of c.args.geo.now)) c.args.props.now, c.requires.room)

pub loop-i-preserved : goal.loop-i-preserved
loop-i-preserved c =
    let geo = raw_of c.args.geo.now in
    let at = ap (λ n. c.loop-i.i * n) c.pnode_len-len.ensures in
    let tree = c.args.geo.now.in_range.one_leb in
    let one = one_more_fits c.loop-i.i (pnode_count geo) (pnode_len geo) (omega (arith, c.loop-i-test.true, c.pnode_count-count.ensures)) in
    let long = c.loop-i.invariant.1 in (
      pnodes_next geo c.args.props.now c.loop-i.out c.lay_pnode.new.out c.loop-i.i _ c.pnode_of-node.result c.lay_pnode.ensures at c.pnode_of-node.ensures.says (omega (arith, at, tree, one, long)) c.loop-i.invariant.0,
      c.lay_pnode.ensures.size ∙ long,
    )

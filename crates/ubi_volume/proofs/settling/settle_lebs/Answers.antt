use Rattle.ubi_volume.proofs.SettledLebs.{so_far_none, so_far_more}
use Rattle.ubi_volume.proofs.settling.settle_lebs.Goals as goal

pub loop-lnum-init : goal.loop-lnum-init
loop-lnum-init c = so_far_none c.args.size c.args.unit c.args.digits c.args.lebs.now c.requires.sizes

pub loop-lnum-preserved : goal.loop-lnum-preserved
loop-lnum-preserved c =
    let call = c.settle_at-rest in
    so_far_more c.args.size c.args.unit c.args.digits c.args.lebs.now c.loop-lnum.lebs call.new.lebs c.loop-lnum.lnum c.loop-lnum.rest call.result c.loop-lnum.invariant
    call.ensures.settled call.ensures.others call.ensures.len call.ensures.sizes call.ensures.rest

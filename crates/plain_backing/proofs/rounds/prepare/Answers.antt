use Rattle.std.proofs.Common.{arith}
use Rattle.plain_backing.proofs.SoFar.{prepared_more}
use Rattle.plain_backing.proofs.rounds.prepare.Goals as goal

pub loop-left-preserved : goal.loop-left-preserved
loop-left-preserved c =
    let room = c.in_ok-make_room.ensures in
    prepared_more c.args.cells.now c.loop-left.cells c.make_room.new.cells c.args.changes.now c.loop-left.copies.items c.push.new.self.items c.loop-left.left _ c.loop-left.total c.in_ok-total.total c.set_bytes.result c.in_ok-change.change c.index-changes-left.result c.loop-left.invariant
    (omega arith) c.index-changes-left.is c.in_ok-change.ensures c.set_bytes.ensures c.in_ok-total.ensures.0 c.in_ok-total.ensures.1 room.tree room.bytes room.orphans room.keeps room.made c.in_ok-push.ensures.items

pub returns-clause-fits : goal.returns-clause-fits
returns-clause-fits c = let so = c.loop-left.invariant in omega (arith, so)

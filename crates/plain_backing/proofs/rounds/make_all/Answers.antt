use Rattle.plain_backing.proofs.SoFar.{made_more}
use Rattle.plain_backing.proofs.rounds.make_all.Goals as goal

pub loop-change-preserved : goal.loop-change-preserved
loop-change-preserved c = made_more c.args.cells.now c.loop-change.cells c.make.new.cells c.args.copies.items c.loop-change.copies.items c.pop.new.self.items c.in-Some.change c.loop-change.invariant c.in-Some.ensures.items c.make.ensures

use Rattle.benchmarks.proofs.volume.sum_mounted.Goals as goal

pub loop-i-preserved : goal.loop-i-preserved
loop-i-preserved g c = (c.loop-i.invariant.0, c.find.ensures.kept.shown c.loop-i.invariant.0 c.loop-i.invariant.1)

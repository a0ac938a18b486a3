use Rattle.benchmarks.proofs.Standing.{index_stands}
use Rattle.benchmarks.proofs.paged.sum_paged.Goals as goal

pub find-requires-clause-stands : goal.find-requires-clause-stands
find-requires-clause-stands g c = index_stands (g.V.Volume.state c.loop-i.volume) c.args.index.now c.requires.dirty

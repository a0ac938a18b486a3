use Rattle.node_cache.specs.Kept.{AreKept}
use Rattle.benchmarks.proofs.paged.sum_paged.Given as goal

abbrev pub invariant-loop-i : goal.invariant-loop-i
invariant-loop-i g l = AreKept (g.V.Volume.state l.volume).holds l.cache

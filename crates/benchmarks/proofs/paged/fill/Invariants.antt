use Rattle.node_cache.specs.Kept.{AreKept}
use Rattle.benchmarks.specs.Dirty.{AreAllDirty}
use Rattle.benchmarks.proofs.paged.fill.Given as goal

abbrev pub invariant-loop-i : goal.invariant-loop-i
invariant-loop-i g l = AreAllDirty l.index × AreKept (g.V.Volume.state l.volume).holds l.cache

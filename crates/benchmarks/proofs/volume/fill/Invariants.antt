use Rattle.benchmarks.specs.OnVolume.{StandsInLebsBefore}
use Rattle.benchmarks.proofs.volume.fill.Given as goal

abbrev pub invariant-loop-i : goal.invariant-loop-i
invariant-loop-i g l = StandsInLebsBefore l.geometry (g.V.Volume.state l.volume) l.index l.next

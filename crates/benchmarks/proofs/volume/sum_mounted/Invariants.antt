use Rattle.index_media.specs.KeyedRow.{KeyedRow}
use Rattle.mounted_index.specs.Shown.{Shows}
use Rattle.benchmarks.proofs.volume.sum_mounted.Given as goal

abbrev pub invariant-loop-i : goal.invariant-loop-i
invariant-loop-i g l = (row : KeyedRow) × Shows (g.V.Volume.state l.volume) l.index row

use Rattle.ubifs_base.specs.RawOf.{raw_of}
use Rattle.lpt_area.proofs.ReadSoFar.{LevelsSoFar}
use Rattle.lpt_area.proofs.reading.pnode_places.Given as goal

abbrev pub invariant-loop-level : goal.invariant-loop-level
invariant-loop-level g l = LevelsSoFar (raw_of l.geo) (g.V.Volume.state l.fn.volume) (g.V.Volume.state l.volume) l.fn.root l.level l.row.items

abbrev pub decreases-loop-level : goal.decreases-loop-level
decreases-loop-level g l = l.level

use Rattle.ubifs_base.specs.RawOf.{raw_of}
use Rattle.space_check.proofs.FreeEnds.{EndsSoFar}
use Rattle.space_check.proofs.ends.read_main.Given as goal

-- the LEBs so far meet the rule
abbrev pub invariant-loop-at : goal.invariant-loop-at
invariant-loop-at g l = EndsSoFar (raw_of l.geometry) l.master l.props (g.V.Volume.state l.fn.volume) (g.V.Volume.state l.volume) l.at l.buffer

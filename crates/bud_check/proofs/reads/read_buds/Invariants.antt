use Rattle.std.proofs.Common.{length}
use Rattle.bud_check.proofs.ReadBuds.{ReadSoFar}
use Rattle.bud_check.proofs.reads.read_buds.Given as goal

-- the buds so far
abbrev pub invariant-reading : goal.invariant-reading
invariant-reading g l = ReadSoFar (g.V.Volume.state l.fn.volume) (g.V.Volume.state l.volume) l.left l.buds l.texts.items

abbrev pub decreases-reading : goal.decreases-reading
decreases-reading g l = length l.left

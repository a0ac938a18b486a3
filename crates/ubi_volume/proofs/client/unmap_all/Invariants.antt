use Rattle.ubi_volume.proofs.UnmapAll.{SoFar}
use Rattle.ubi_volume.proofs.client.unmap_all.Given as goal

abbrev pub invariant-loop-lnum : goal.invariant-loop-lnum
invariant-loop-lnum g l = SoFar (g.V.Volume.state l.fn.volume) (g.V.Volume.state l.volume) l.lnum

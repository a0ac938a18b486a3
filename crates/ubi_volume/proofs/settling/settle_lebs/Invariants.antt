use Rattle.ubi_volume.proofs.SettledLebs.{SoFar}
use Rattle.ubi_volume.proofs.settling.settle_lebs.Given as goal

abbrev pub invariant-loop-lnum : goal.invariant-loop-lnum
invariant-loop-lnum l = SoFar l.size l.unit l.digits l.fn.lebs l.lebs l.lnum l.rest

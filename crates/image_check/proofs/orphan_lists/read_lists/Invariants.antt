use Rattle.ubifs_base.specs.RawOf.{raw_of}
use Rattle.image_check.proofs.OrphanArea.{ListsSoFar}
use Rattle.image_check.proofs.orphan_lists.read_lists.Given as goal

-- the LEBs so far meet the rule
abbrev pub invariant-loop-lnum : goal.invariant-loop-lnum
invariant-loop-lnum g l = ListsSoFar (raw_of l.geometry) (g.V.Volume.state l.fn.volume) (g.V.Volume.state l.volume) l.lnum l.leb

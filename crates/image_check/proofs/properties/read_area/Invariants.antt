use Rattle.ubifs_base.specs.RawOf.{raw_of}
use Rattle.image_check.proofs.AreaLebs.{AreaSoFar}
use Rattle.image_check.proofs.properties.read_area.Given as goal

-- the LEBs so far were read
abbrev pub invariant-loop-lnum : goal.invariant-loop-lnum
invariant-loop-lnum g l = AreaSoFar (raw_of l.geometry) (g.V.Volume.state l.fn.volume) (g.V.Volume.state l.volume) l.lnum l.area.items l.leb

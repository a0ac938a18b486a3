use Rattle.ubifs_base.specs.RawOf.{raw_of}
use Rattle.image_dump.proofs.Listed.{SoFar}
use Rattle.image_dump.proofs.listing.list_lebs.Given as goal

abbrev pub invariant-loop-lnum : goal.invariant-loop-lnum
invariant-loop-lnum g l = SoFar (raw_of l.geometry) (g.V.Volume.state l.fn.volume) (g.V.Volume.state l.volume) l.lnum l.text.items l.leb.items

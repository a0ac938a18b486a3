use Rattle.ubifs_base.specs.RawOf.{raw_of}
use Rattle.lpt_area.specs.Laid.{IsLevelLaid, places}
use Rattle.lpt_area.proofs.levels.lay_nnodes.Given as goal

-- the nnodes so far are laid
abbrev pub invariant-loop-i : goal.invariant-loop-i
invariant-loop-i l = IsLevelLaid (raw_of l.geo) l.lnum (places l.lnum l.below.offs l.below.len l.below.count) l.fn.out l.out l.offs l.len l.i

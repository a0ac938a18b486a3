use Rattle.std.proofs.Common.{◌≡◌, length}
use Rattle.ubifs_base.specs.RawOf.{raw_of}
use Rattle.lpt_area.specs.Laid.{ArePnodesLaid}
use Rattle.lpt_area.proofs.levels.lay_pnodes.Given as goal

-- the pnodes so far are laid
abbrev pub invariant-loop-i : goal.invariant-loop-i
invariant-loop-i l = ArePnodesLaid (raw_of l.geo) l.props l.out l.i × (length l.out ≡ l.geo.leb_size)

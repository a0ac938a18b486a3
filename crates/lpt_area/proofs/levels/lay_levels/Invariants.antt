use Rattle.std.proofs.Common.{◌≡◌, ◌<◌, ◌≤◌}
use Rattle.ubifs_base.specs.Properties.{nnode_len}
use Rattle.ubifs_base.specs.RawOf.{raw_of}
use Rattle.lpt_area.specs.Laid.{AreLevelsLaid}
use Rattle.lpt_area.proofs.levels.lay_levels.Given as goal

-- the levels so far are laid, and from the first nnodes on all nodes have their length
abbrev pub invariant-loop-below : goal.invariant-loop-below
invariant-loop-below l =
    AreLevelsLaid (raw_of l.geo) l.lnum l.fn.out l.out l.level.offs l.level.len l.level.count l._below × (0 < l.level.len) × (1 ≤ l._below → l.level.len ≡ nnode_len (raw_of l.geo))

use Rattle.std.proofs.Common.{◌≡◌, length}
use Rattle.ubifs_base.specs.RawOf.{raw_of}
use Rattle.bud_log.specs.KeepsOnLaws.{KeepsOn}
use Rattle.bud_log.specs.Log.{IsLogLeb}
use Rattle.bud_log.specs.RingRuns.{lebs_left_of}
use Rattle.journal_check.specs.LogChecks.{IsReadUpTo}
use Rattle.journal_check.proofs.reading.read_on.Given as goal

-- what was read so far, and that all is kept
abbrev pub invariant-loop-lnum : goal.invariant-loop-lnum
invariant-loop-lnum g l =
    IsReadUpTo (g.V.Volume.state l.fn.volume).holds (raw_of l.geometry) l.from l.number l.lnum l.read × IsLogLeb (raw_of l.geometry) l.lnum
    × KeepsOn (g.V.Volume.state l.fn.volume) (g.V.Volume.state l.volume) × (length l.leb ≡ length l.fn.leb)

abbrev pub decreases-loop-lnum : goal.decreases-loop-lnum
decreases-loop-lnum g l = lebs_left_of (raw_of l.geometry) l.from l.lnum

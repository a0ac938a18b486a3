use Rattle.std.proofs.Common.{◌≡◌, ◌≤◌, length}
use Rattle.ubifs_base.specs.RawOf.{raw_of}
use Rattle.ubifs_base.specs.Areas.{lpt_first}
use Rattle.bud_log.specs.KeepsOnLaws.{KeepsOn}
use Rattle.journal_check.proofs.NewerLebs.{IsNewerSoFar}
use Rattle.journal_check.proofs.newer.first_newer.Given as goal

-- the LEBs so far, and that all is kept
abbrev pub invariant-loop-lnum : goal.invariant-loop-lnum
invariant-loop-lnum g l =
    IsNewerSoFar (g.V.Volume.state l.fn.volume).holds (raw_of l.geometry) l.number l.lnums l.lnum l.first
    × (3 ≤ l.lnum) × (l.lnum-end ≡ lpt_first (raw_of l.geometry)) × KeepsOn (g.V.Volume.state l.fn.volume) (g.V.Volume.state l.volume) × (length l.leb ≡ length l.fn.leb)

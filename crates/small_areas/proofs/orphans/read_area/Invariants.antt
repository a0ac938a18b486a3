use Rattle.std.proofs.Common.{◌≡◌, length}
use Rattle.ubifs_base.specs.Areas.{orph_first}
use Rattle.ubifs_base.specs.RawOf.{raw_of}
use Rattle.small_areas.specs.Orphans.{AreOrphans}
use Rattle.small_areas.proofs.Kept.{KeepsOn}
use Rattle.small_areas.proofs.orphans.read_area.Given as goal

-- the numbers of the LEBs so far
abbrev pub invariant-loop-at : goal.invariant-loop-at
invariant-loop-at g l =
    AreOrphans (g.V.Volume.state l.fn.volume).holds (orph_first (raw_of l.geometry)) l.at l.inos.items × KeepsOn (g.V.Volume.state l.fn.volume) (g.V.Volume.state l.volume) × (length l.leb ≡ length l.fn.leb)

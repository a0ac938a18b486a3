use Rattle.std.proofs.Common.{◌≤◌}
use Rattle.std.specs.Prelude.{◌≡◌, ◌⊎◌}
use Rattle.ubifs_base.specs.RawOf.{raw_of}
use Rattle.ubi_volume.specs.Volume.{SameShape}
use Rattle.bud_log.proofs.Ended.{IsUnmappedTo}
use Rattle.bud_log.specs.RingRuns.{lebs_left_of}
use Rattle.bud_log.proofs.log.unmap_between.Given as goal

-- the LEBs up to the next one are unmapped, and nothing failed
abbrev pub invariant-loop-lnum : goal.invariant-loop-lnum
invariant-loop-lnum g l =
    IsUnmappedTo (g.V.Volume.state l.fn.volume) (g.V.Volume.state l.volume) (raw_of l.geometry) l.from l.to l.lnum × SameShape (g.V.Volume.state l.fn.volume) (g.V.Volume.state l.volume)
    × ((g.V.Volume.state l.fn.volume).faults ≤ (g.V.Volume.state l.volume).faults)
    × ((g.V.Volume.state l.fn.volume).sure → (g.V.Volume.state l.volume).spent ⊎ ((g.V.Volume.state l.volume).sure × ((g.V.Volume.state l.volume).faults ≡ (g.V.Volume.state l.fn.volume).faults)))

abbrev pub decreases-loop-lnum : goal.decreases-loop-lnum
decreases-loop-lnum g l = lebs_left_of (raw_of l.geometry) l.to l.lnum

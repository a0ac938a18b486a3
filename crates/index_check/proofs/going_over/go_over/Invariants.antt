use Rattle.std.proofs.Common.{◌+◌}
use Rattle.ubifs_base.specs.RawOf.{raw_of}
use Rattle.image_check.specs.KeptLaws.{IsKept}
use Rattle.index_check.specs.IndexWalk.{waiting_in}
use Rattle.index_check.proofs.Walks.{IsUnderWay, work}
use Rattle.index_check.proofs.going_over.go_over.Given as goal

abbrev pub invariant-walking : goal.invariant-walking
invariant-walking g l = record {
  kept : IsKept (g.V.Volume.state l.fn.volume) (g.V.Volume.state l.volume);
  walk : IsUnderWay (g.V.Volume.state l.fn.volume).holds (raw_of l.geometry) l.master l.props (waiting_in l.walk.waiting.items) l.walk;
}

-- a node that waits counts as much as all that can be below it
abbrev pub decreases-walking : goal.decreases-walking
decreases-walking g l = work ((raw_of l.geometry).fanout + 1) 65536 (waiting_in l.walk.waiting.items)

use Rattle.std.proofs.Common.{◌≡◌, ◌*◌, ◌≤◌, take}
use Rattle.std.specs.List.{sum_by}
use Rattle.ubifs_base.specs.RawOf.{raw_of}
use Rattle.made_image.specs.Around.{dead_in}
use Rattle.made_image.proofs.properties.dead_of.Given as goal

abbrev pub invariant-loop-prop : goal.invariant-loop-prop
invariant-loop-prop l = (l.total ≡ sum_by (dead_in (raw_of l.geometry)) (take l.prop-index l.props)) × (l.total ≤ l.prop-index * 8589934592)

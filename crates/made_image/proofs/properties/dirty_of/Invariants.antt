use Rattle.std.proofs.Common.{◌≡◌, ◌*◌, ◌≤◌, take}
use Rattle.std.specs.List.{sum_by}
use Rattle.made_image.proofs.properties.dirty_of.Given as goal

abbrev pub invariant-loop-prop : goal.invariant-loop-prop
invariant-loop-prop l = (l.total ≡ sum_by (λ prop. prop.dirty) (take l.prop-index l.props)) × (l.total ≤ l.prop-index * 8589934592)

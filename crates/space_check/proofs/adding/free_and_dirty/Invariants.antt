use Rattle.std.proofs.Common.{◌≡◌, ◌+◌, ◌++◌, drop, map}
use Rattle.space_check.proofs.adding.free_and_dirty.Given as goal

-- the numbers so far, and those of what is left
abbrev pub invariant-loop-prop : goal.invariant-loop-prop
invariant-loop-prop l = l.sums.items ++ map (λ prop. prop.free + prop.dirty) (drop l.prop-index l.props) ≡ map (λ prop. prop.free + prop.dirty) l.props

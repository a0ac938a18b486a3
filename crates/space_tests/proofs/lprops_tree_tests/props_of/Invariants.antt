use Rattle.std.proofs.Common.{◌≡◌}
use Rattle.ubifs_base.specs.RawOf.{raw_of}
use Rattle.space_tests.proofs.lprops_tree_tests.props_of.Given as goal

abbrev pub invariant-loop-row : goal.invariant-loop-row
invariant-loop-row l = l.props.geo ≡ raw_of l.geo

use Rattle.std.proofs.Common.{◌≡◌}
use Rattle.ubifs_base.specs.RawOf.{raw_of}
use Rattle.space_tests.proofs.lprops_tree_tests.first_wrong.Given as goal

abbrev pub invariant-loop-number : goal.invariant-loop-number
invariant-loop-number l = l.props.geo ≡ raw_of l.geo

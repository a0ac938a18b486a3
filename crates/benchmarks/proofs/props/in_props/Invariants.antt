use Rattle.std.proofs.Common.{◌≡◌}
use Rattle.ubifs_base.specs.RawOf.{raw_of}
use Rattle.benchmarks.proofs.props.in_props.Given as goal

abbrev pub invariant-loop-i : goal.invariant-loop-i
invariant-loop-i l = l.props.geo ≡ raw_of l.geo

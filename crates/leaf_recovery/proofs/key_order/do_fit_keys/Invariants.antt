use Rattle.std.proofs.Common.{length}
use Rattle.leaf_recovery.specs.Ranked.{DoFitKeys}
use Rattle.leaf_recovery.proofs.key_order.do_fit_keys.Given as goal

abbrev pub invariant-going : goal.invariant-going
invariant-going l = DoFitKeys l.left → DoFitKeys l.nodes

abbrev pub decreases-going : goal.decreases-going
decreases-going l = length l.left

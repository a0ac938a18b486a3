use Rattle.std.proofs.Common.{length}
use Rattle.leaf_recovery.proofs.GoingUp.{DoKeysGoUp}
use Rattle.leaf_recovery.proofs.repeated.keys_go_up.Given as goal

abbrev pub invariant-going : goal.invariant-going
invariant-going l = DoKeysGoUp l.left → DoKeysGoUp l.found

abbrev pub decreases-going : goal.decreases-going
decreases-going l = length l.left

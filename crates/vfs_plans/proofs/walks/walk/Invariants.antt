use Rattle.std.proofs.Common.{◌-◌}
use Rattle.std.specs.Prelude.{length}
use Rattle.vfs_plans.proofs.Walking.{Walking}
use Rattle.vfs_plans.proofs.walks.walk.Given as goal

abbrev pub invariant-loop-done : goal.invariant-loop-done
invariant-loop-done g l = Walking (g.B.Backing.outlook l.fn.backing) (g.B.Backing.outlook l.backing) (g.B.Backing.state l.fn.backing) (g.B.Backing.state l.backing) l.kept l.names l.at l.done

abbrev pub decreases-loop-done : goal.decreases-loop-done
decreases-loop-done g l = length l.names - l.done

use Rattle.buffered_files.proofs.Putting.{Written}
use Rattle.buffered_files.proofs.put.write_back.Given as goal

abbrev pub invariant-loop-left : goal.invariant-loop-left
invariant-loop-left g l = Written (g.B.Backing.outlook l.fn.backing) (g.B.Backing.outlook l.backing) (g.B.Backing.state l.fn.backing) (g.B.Backing.state l.backing) l.fn.kept l.kept l.left

abbrev pub decreases-loop-left : goal.decreases-loop-left
decreases-loop-left g l = l.left

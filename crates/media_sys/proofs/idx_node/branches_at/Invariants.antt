use Rattle.std.proofs.Common.{◌≡◌, ◌+◌, ◌-◌, ◌*◌, ◌++◌}
use Rattle.media_sys.specs.Index.{branches_at}
use Rattle.media_sys.proofs.idx_node.branches_at.Given as goal

abbrev pub invariant-loop-i : goal.invariant-loop-i
invariant-loop-i l = l.branches.items ++ branches_at (l.count - l.i) (4 + 20 * l.i) l.body ≡ branches_at l.count 4 l.body

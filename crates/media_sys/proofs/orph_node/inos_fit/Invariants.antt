use Rattle.std.proofs.Common.{◌≡◌, ◌+◌, ◌-◌, ◌*◌}
use Rattle.media_sys.specs.Orphans.{inos_fit}
use Rattle.media_sys.proofs.orph_node.inos_fit.Given as goal

abbrev pub invariant-loop-i : goal.invariant-loop-i
invariant-loop-i l = inos_fit l.count 8 l.body ≡ inos_fit (l.count - l.i) (8 + 8 * l.i) l.body

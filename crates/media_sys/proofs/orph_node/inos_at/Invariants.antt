use Rattle.std.proofs.Common.{◌≡◌, ◌+◌, ◌-◌, ◌*◌, ◌++◌, true}
use Rattle.media_sys.specs.Orphans.{inos_fit, inos_at}
use Rattle.media_sys.proofs.orph_node.inos_at.Given as goal

abbrev pub invariant-loop-i : goal.invariant-loop-i
invariant-loop-i l = record {
  read : l.inos.items ++ inos_at (l.count - l.i) (8 + 8 * l.i) l.body ≡ inos_at l.count 8 l.body;
  fit : inos_fit (l.count - l.i) (8 + 8 * l.i) l.body ≡ true;
}

use Rattle.std.proofs.Common.{◌-◌, ◌≡◌, drop, set}
use Rattle.lprops_tree.proofs.Replaying.{IsWonBut}
use Rattle.lprops_tree.proofs.tournament.replay.Given as goal

abbrev pub invariant-loop-place : goal.invariant-loop-place
invariant-loop-place l = record {
  won : IsWonBut l.count l.place l.nodes;
  candidates : drop l.count l.nodes ≡ set (drop l.count l.fn.nodes) l.at l.fn.one;
}

abbrev pub decreases-loop-place : goal.decreases-loop-place
decreases-loop-place l = l.place - 1

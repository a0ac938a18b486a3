use Rattle.std.proofs.Common.{◌≡◌, ◌+◌, ◌≤◌, ◌++◌, min, vec_len, vec_capacity}
use Rattle.std.specs.Prelude.{reverse}
use Rattle.index_tree.proofs.insertion.move_tail.Given as goal

abbrev pub invariant-loop-to : goal.invariant-loop-to
invariant-loop-to g l = record {
  parts : l.initial.from.items ≡ l.from.items ++ reverse l.to.items;
  all : vec_len l.from + vec_len l.to ≡ vec_len l.initial.from;
  least : min l.at (vec_len l.initial.from) ≤ vec_len l.from;
  room : vec_len l.initial.from ≤ l.at + vec_capacity l.to;
}

abbrev pub decreases-loop-to : goal.decreases-loop-to
decreases-loop-to g l = vec_len l.from

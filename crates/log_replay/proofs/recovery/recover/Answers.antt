use Rattle.std.proofs.Common.{List, ap, ◌∙◌}
use Rattle.leaf_map.specs.Recovered.{nodes_in_order, leaves_after, leaves_found}
use Rattle.log_replay.specs.declared.candidate.Candidate.{Candidate}
use Rattle.log_replay.specs.Moving.{moved_all}
use Rattle.log_replay.specs.Standing.{leaves_in}
use Rattle.log_replay.proofs.Recovering.{fs, nodes_are, placed_stands, recovered, start_settled}
use Rattle.log_replay.proofs.recovery.recover.Goals as goal

pub returns-clause-leaves : goal.returns-clause-leaves
returns-clause-leaves c = λ parts can found.
    let j = can.journal in
    let start = c.stand_empty-standing.result in
    let settled = start_settled parts j c.args.index start c.args.found.settled.items can.in_index c.stand_empty-standing.ensures.index c.stand_empty-standing.ensures.says found.settled in
    let placed = c.in_ok-place_leaves.ensures.placed (fs parts j) settled in
    let first = placed_stands parts j c.place_leaves.new.standing placed in
    let applied = c.in_ok-apply_nodes.ensures.stands (leaves_found parts) (nodes_in_order parts.nodes) (nodes_are parts j c.args.nodes.items can.nodes) first in
    let last = c.drop_listed.ensures.stands (leaves_after (leaves_found parts) (nodes_in_order parts.nodes)) applied in
    c.in_ok-move_leaves.ensures.leaves ∙ ap (λ (outer : List Candidate). moved_all outer (leaves_in c.drop_listed.new.standing)) c.deref.ensures.value ∙ recovered parts j c.args.found.candidates.items c.drop_listed.new.standing c.args.listed.now can.list last c.args.found.settled.items found

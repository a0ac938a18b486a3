use Rattle.std.proofs.Common.{List, ℕ, ap, ◌∙◌}
use Rattle.leaf_map.specs.Recovered.{nodes_in_order, leaves_after, leaves_found}
use Rattle.log_replay.specs.Standing.{leaves}
use Rattle.log_replay.specs.Told.{without_orphans}
use Rattle.log_replay.proofs.Places.{leaves_told, nodes_told}
use Rattle.log_replay.proofs.recovery.replay_nodes.Goals as goal

pub returns-clause-leaves : goal.returns-clause-leaves
returns-clause-leaves c parts told =
    let index = c.args.index in
    let found = c.args.found.items in
    let nodes = c.args.nodes.items in
    let listed = c.args.listed.now in
    let first = c.in_ok-standing.ensures.stands (leaves_found parts) (leaves_told parts index found nodes listed told) in
    let applied = c.in_ok-apply_nodes.ensures.stands (leaves_found parts) (nodes_in_order parts.nodes) (nodes_told parts index found nodes listed told) first in
    let after = leaves_after (leaves_found parts) (nodes_in_order parts.nodes) in
    let last = c.drop_listed.ensures.stands after applied in
    last.in_index ∙ ap (λ (inos : List ℕ). leaves (without_orphans after inos)) told.of_list

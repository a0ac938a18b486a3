use Rattle.std.specs.Prelude.{None}
use Rattle.index_media.specs.KeyedRange.{pruned_by_keys}
use Rattle.node_table.proofs.ExchangeSound.{kept_sound}
use Rattle.node_table.proofs.pruning.pruning_keeps_nodes.Goals as goal

pub returns : goal.returns
returns c = record {
  sound = λ f level from to row s some.
      kept_sound f level (λ r. pruned_by_keys from to r) row
      (record {
        number = c.a_range_removal_keeps_what_nodes_are.ensures.number from to;
        children = λ n r h. c.a_range_removal_keeps_what_nodes_are.ensures.children n from to r h;
        levels = λ n r h. c.a_range_removal_keeps_what_nodes_are.ensures.levels n from to r h;
        bounded = λ r h. c.a_range_removal_keeps_what_nodes_are.ensures.bounded from to 0 None r h;
        keys = c.a_range_removal_keeps_what_nodes_are.ensures.keys from to;
      })
      s some;
  same = c.a_range_removal_leaves_the_keys_of_branches.ensures.untouched;
}

use Rattle.std.proofs.Common.{arith}
use Rattle.std.specs.Prelude.{None}
use Rattle.node_table.proofs.ExchangeSound.{exchange_sound}
use Rattle.node_table.proofs.exchange.exchange_keeps_nodes.Goals as goal

pub returns : goal.returns
returns c = record {
  sound = λ f level gone come row k s some.
      exchange_sound f level gone come row
      (record {
        number = c.a_removal_keeps_what_nodes_are.ensures.number gone;
        children = λ n r h. c.a_removal_keeps_what_nodes_are.ensures.children n gone r h;
        levels = λ n r h. c.a_removal_keeps_what_nodes_are.ensures.levels n gone r h;
        bounded = λ r h. c.a_removal_keeps_what_nodes_are.ensures.bounded gone 0 None r h;
        keys = c.a_removal_keeps_what_nodes_are.ensures.keys gone;
      })
      (λ new one own. record {
        number = λ r. let same = c.a_replacement_keeps_what_nodes_are.ensures.number gone new r in omega (arith, same);
        children = λ n r h. c.a_replacement_keeps_what_nodes_are.ensures.children n gone new r h;
        levels = λ n r h. c.a_replacement_keeps_what_nodes_are.ensures.levels n gone new r h;
        bounded = λ r h. c.a_replacement_leaves_the_keys_of_branches.ensures.keys gone new 0 None r one h;
        keys = λ r h. c.a_replacement_keeps_what_nodes_are.ensures.keys gone new r own h;
      })
      k s some;
  number = c.a_replacement_keeps_what_nodes_are.ensures.number;
}

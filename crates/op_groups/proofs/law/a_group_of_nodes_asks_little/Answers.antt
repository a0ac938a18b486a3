use Rattle.op_groups.proofs.Asked.{nodes_ask_little}
use Rattle.op_groups.proofs.law.a_group_of_nodes_asks_little.Goals as goal

pub returns : goal.returns
returns c = nodes_ask_little

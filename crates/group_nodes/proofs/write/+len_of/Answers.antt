use Rattle.group_nodes.specs.NodeLaws.{leaf_of_node}
use Rattle.group_nodes.proofs.ReadBack.{first_is}
use Rattle.group_nodes.proofs.write.+len_of.Goals as goal

pub text_len-requires : goal.text_len-requires
text_len-requires t c = leaf_of_node c.in-Some.first.now (first_is c.args.changes.now c.in-Some.first.now c.in-Some.rest.now c.requires.nodes c.in-Some.ensures.cases.0)

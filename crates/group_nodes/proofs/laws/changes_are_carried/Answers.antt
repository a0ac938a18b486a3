use Rattle.group_nodes.specs.NodeLaws.{leaf_of_node, node_carries}
use Rattle.group_nodes.proofs.laws.changes_are_carried.Goals as goal

pub returns-clause-node : goal.returns-clause-node
returns-clause-node c = leaf_of_node

pub returns-clause-carried : goal.returns-clause-carried
returns-clause-carried c = node_carries

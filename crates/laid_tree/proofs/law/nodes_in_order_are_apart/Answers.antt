use Rattle.laid_tree.proofs.Places.{disjoint_nodes, distinct_nodes}
use Rattle.laid_tree.proofs.law.nodes_in_order_are_apart.Goals as goal

pub returns : goal.returns
returns c = record { disjoint = disjoint_nodes; distinct = distinct_nodes }

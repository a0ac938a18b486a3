use Rattle.leaf_map.specs.InOrder.{joined_order, merged_order, same_order}
use Rattle.leaf_map.proofs.law.order_forgets_how_nodes_were_joined.Goals as goal

pub returns-clause-same : goal.returns-clause-same
returns-clause-same c = same_order

pub returns-clause-joined : goal.returns-clause-joined
returns-clause-joined c = joined_order

pub returns-clause-merged : goal.returns-clause-merged
returns-clause-merged c = merged_order

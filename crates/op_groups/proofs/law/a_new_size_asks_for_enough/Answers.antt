use Rattle.op_groups.proofs.Limits.{truncating_bytes, truncating_nodes}
use Rattle.op_groups.proofs.law.a_new_size_asks_for_enough.Goals as goal

pub returns-clause-bytes : goal.returns-clause-bytes
returns-clause-bytes c = truncating_bytes

pub returns-clause-nodes : goal.returns-clause-nodes
returns-clause-nodes c = truncating_nodes

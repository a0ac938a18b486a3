use Rattle.tree_nodes.proofs.Trees.{stored_is_same}
use Rattle.tree_nodes.proofs.law.a_stored_tree_is_the_same.Goals as goal

pub returns : goal.returns
returns c = stored_is_same

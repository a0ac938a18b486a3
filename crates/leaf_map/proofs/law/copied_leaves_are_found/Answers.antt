use Rattle.leaf_map.proofs.FoundNodes.{found_nodes}
use Rattle.leaf_map.proofs.law.copied_leaves_are_found.Goals as goal

pub returns : goal.returns
returns c = found_nodes

use Rattle.leaf_map.proofs.FoundLeaves.{found_map}
use Rattle.leaf_map.proofs.law.found_leaves_are_of_an_index.Goals as goal

pub returns : goal.returns
returns c = found_map

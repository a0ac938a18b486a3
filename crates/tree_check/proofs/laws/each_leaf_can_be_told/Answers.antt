use Rattle.tree_check.proofs.Telling.{leaf_told}
use Rattle.tree_check.proofs.laws.each_leaf_can_be_told.Goals as goal

pub returns : goal.returns
returns c = leaf_told

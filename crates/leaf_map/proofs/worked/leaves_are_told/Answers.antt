-- The rows are computed.
use Rattle.std.proofs.Common.{refl}
use Rattle.ubifs_base.specs.R5.{r5_of}
use Rattle.index_tree.specs.Order.{key_rank}
use Rattle.index_tree.specs.Removal.{same_leaf}
use Rattle.leaf_map.proofs.worked.leaves_are_told.Goals as goal

pub returns-clause-dropped : goal.returns-clause-dropped
unfolding key_rank r5_of same_leaf
returns-clause-dropped c = refl

pub returns-clause-set_again : goal.returns-clause-set_again
unfolding key_rank r5_of same_leaf
returns-clause-set_again c = refl

pub returns-clause-cut : goal.returns-clause-cut
unfolding key_rank r5_of same_leaf
returns-clause-cut c = refl

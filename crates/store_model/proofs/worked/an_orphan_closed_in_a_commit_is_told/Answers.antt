-- The rows are computed.
use Rattle.std.proofs.Common.{refl}
use Rattle.ubifs_base.specs.R5.{r5_of}
use Rattle.index_tree.specs.Order.{key_rank}
use Rattle.index_tree.specs.Removal.{same_leaf}
use Rattle.store_model.proofs.worked.an_orphan_closed_in_a_commit_is_told.Goals as goal

pub returns-clause-tree : goal.returns-clause-tree
unfolding key_rank r5_of same_leaf
returns-clause-tree c = refl

pub returns-clause-listed : goal.returns-clause-listed
unfolding key_rank r5_of same_leaf
returns-clause-listed c = refl

pub returns-clause-closed : goal.returns-clause-closed
unfolding key_rank r5_of same_leaf
returns-clause-closed c = refl

pub returns-clause-next : goal.returns-clause-next
unfolding key_rank r5_of same_leaf
returns-clause-next c = refl

pub returns-clause-found : goal.returns-clause-found
unfolding key_rank r5_of same_leaf
returns-clause-found c = refl

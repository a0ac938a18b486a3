-- The rows are computed.
use Rattle.std.proofs.Common.{refl}
use Rattle.ubifs_base.specs.R5.{r5_of}
use Rattle.index_tree.specs.Order.{key_rank}
use Rattle.index_tree.specs.Removal.{same_leaf}
use Rattle.store_model.proofs.worked.a_put_is_told.Goals as goal

pub returns-clause-tree : goal.returns-clause-tree
unfolding key_rank r5_of same_leaf
returns-clause-tree c = refl

pub returns-clause-leaves : goal.returns-clause-leaves
unfolding key_rank r5_of same_leaf
returns-clause-leaves c = refl

pub returns-clause-at : goal.returns-clause-at
unfolding key_rank r5_of same_leaf
returns-clause-at c = refl

pub returns-clause-space : goal.returns-clause-space
unfolding key_rank r5_of same_leaf
returns-clause-space c = refl

pub returns-clause-lost : goal.returns-clause-lost
unfolding key_rank r5_of same_leaf
returns-clause-lost c = refl

pub returns-clause-kept : goal.returns-clause-kept
unfolding key_rank r5_of same_leaf
returns-clause-kept c = refl

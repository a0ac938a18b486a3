-- The rows are computed.
use Rattle.std.proofs.Common.{refl}
use Rattle.ubifs_base.specs.R5.{r5_of}
use Rattle.index_tree.specs.Order.{key_rank}
use Rattle.index_tree.specs.Removal.{same_leaf}
use Rattle.store_model.proofs.worked.a_collection_is_told.Goals as goal

pub returns-clause-half : goal.returns-clause-half
unfolding key_rank r5_of same_leaf
returns-clause-half c = refl

pub returns-clause-whole : goal.returns-clause-whole
unfolding key_rank r5_of same_leaf
returns-clause-whole c = refl

pub returns-clause-copies : goal.returns-clause-copies
unfolding key_rank r5_of same_leaf
returns-clause-copies c = refl

pub returns-clause-lent : goal.returns-clause-lent
unfolding key_rank r5_of same_leaf
returns-clause-lent c = refl

pub returns-clause-victim : goal.returns-clause-victim
unfolding key_rank r5_of same_leaf
returns-clause-victim c = refl

pub returns-clause-freed : goal.returns-clause-freed
unfolding key_rank r5_of same_leaf
returns-clause-freed c = refl

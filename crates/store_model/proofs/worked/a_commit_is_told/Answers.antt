-- The rows are computed.
use Rattle.std.proofs.Common.{refl}
use Rattle.ubifs_base.specs.R5.{r5_of}
use Rattle.index_tree.specs.Order.{key_rank}
use Rattle.index_tree.specs.Removal.{same_leaf}
use Rattle.store_model.proofs.worked.a_commit_is_told.Goals as goal

pub returns-clause-taken : goal.returns-clause-taken
unfolding key_rank r5_of same_leaf
returns-clause-taken c = refl

pub returns-clause-ended : goal.returns-clause-ended
unfolding key_rank r5_of same_leaf
returns-clause-ended c = refl

pub returns-clause-buds : goal.returns-clause-buds
unfolding key_rank r5_of same_leaf
returns-clause-buds c = refl

pub returns-clause-old : goal.returns-clause-old
unfolding key_rank r5_of same_leaf
returns-clause-old c = refl

pub returns-clause-new : goal.returns-clause-new
unfolding key_rank r5_of same_leaf
returns-clause-new c = refl

pub returns-clause-after : goal.returns-clause-after
unfolding key_rank r5_of same_leaf
returns-clause-after c = refl

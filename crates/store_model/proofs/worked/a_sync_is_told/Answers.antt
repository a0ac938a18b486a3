-- The rows are computed.
use Rattle.std.proofs.Common.{refl}
use Rattle.ubifs_base.specs.R5.{r5_of}
use Rattle.index_tree.specs.Order.{key_rank}
use Rattle.index_tree.specs.Removal.{same_leaf}
use Rattle.store_model.proofs.worked.a_sync_is_told.Goals as goal

pub returns-clause-held : goal.returns-clause-held
unfolding key_rank r5_of same_leaf
returns-clause-held c = refl

pub returns-clause-synced : goal.returns-clause-synced
unfolding key_rank r5_of same_leaf
returns-clause-synced c = refl

pub returns-clause-before : goal.returns-clause-before
unfolding key_rank r5_of same_leaf
returns-clause-before c = refl

pub returns-clause-counts : goal.returns-clause-counts
unfolding key_rank r5_of same_leaf
returns-clause-counts c = refl

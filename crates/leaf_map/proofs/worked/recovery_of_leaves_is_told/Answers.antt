-- The rows are computed.
use Rattle.std.proofs.Common.{refl}
use Rattle.ubifs_base.specs.R5.{r5_of}
use Rattle.index_tree.specs.Order.{key_rank}
use Rattle.index_tree.specs.Removal.{same_leaf}
use Rattle.leaf_map.proofs.worked.recovery_of_leaves_is_told.Goals as goal

pub returns-clause-orphan : goal.returns-clause-orphan
unfolding key_rank r5_of same_leaf
returns-clause-orphan c = refl

pub returns-clause-linked : goal.returns-clause-linked
unfolding key_rank r5_of same_leaf
returns-clause-linked c = refl

pub returns-clause-deleted : goal.returns-clause-deleted
unfolding key_rank r5_of same_leaf
returns-clause-deleted c = refl

pub returns-clause-bud : goal.returns-clause-bud
unfolding key_rank r5_of same_leaf
returns-clause-bud c = refl

pub returns-clause-names : goal.returns-clause-names
unfolding key_rank r5_of same_leaf
returns-clause-names c = refl

pub returns-clause-heads : goal.returns-clause-heads
unfolding key_rank r5_of same_leaf
returns-clause-heads c = refl

pub returns-clause-another : goal.returns-clause-another
unfolding key_rank r5_of same_leaf
returns-clause-another c = refl

pub returns-clause-unknown : goal.returns-clause-unknown
unfolding key_rank r5_of same_leaf
returns-clause-unknown c = refl

pub returns-clause-unlinked : goal.returns-clause-unlinked
unfolding key_rank r5_of same_leaf
returns-clause-unlinked c = refl

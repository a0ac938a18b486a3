-- The rows are computed.
use Rattle.std.proofs.Common.{refl}
use Rattle.ubifs_base.specs.R5.{r5_of}
use Rattle.index_tree.specs.Order.{key_rank}
use Rattle.index_tree.specs.Removal.{same_leaf}
use Rattle.store_model.proofs.worked.cuts_of_a_long_run_are_told.Goals as goal

pub returns-clause-put : goal.returns-clause-put
unfolding key_rank r5_of same_leaf
returns-clause-put c = refl

pub returns-clause-inside : goal.returns-clause-inside
unfolding key_rank r5_of same_leaf
returns-clause-inside c = refl

pub returns-clause-offered : goal.returns-clause-offered
unfolding key_rank r5_of same_leaf
returns-clause-offered c = refl

pub returns-clause-copied : goal.returns-clause-copied
unfolding key_rank r5_of same_leaf
returns-clause-copied c = refl

pub returns-clause-unlinked : goal.returns-clause-unlinked
unfolding key_rank r5_of same_leaf
returns-clause-unlinked c = refl

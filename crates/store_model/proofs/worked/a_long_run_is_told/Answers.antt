-- The rows are computed.
use Rattle.std.proofs.Common.{refl}
use Rattle.ubifs_base.specs.R5.{r5_of}
use Rattle.index_tree.specs.Order.{key_rank}
use Rattle.index_tree.specs.Removal.{same_leaf}
use Rattle.store_model.proofs.worked.a_long_run_is_told.Goals as goal

pub returns-clause-first : goal.returns-clause-first
unfolding key_rank r5_of same_leaf
returns-clause-first c = refl

pub returns-clause-collected : goal.returns-clause-collected
unfolding key_rank r5_of same_leaf
returns-clause-collected c = refl

pub returns-clause-second : goal.returns-clause-second
unfolding key_rank r5_of same_leaf
returns-clause-second c = refl

pub returns-clause-found : goal.returns-clause-found
unfolding key_rank r5_of same_leaf
returns-clause-found c = refl

pub returns-clause-found_last : goal.returns-clause-found_last
unfolding key_rank r5_of same_leaf
returns-clause-found_last c = refl

-- The rows are computed.
use Rattle.std.proofs.Common.{refl}
use Rattle.ubifs_base.specs.R5.{r5_of}
use Rattle.index_tree.specs.Order.{key_rank}
use Rattle.index_tree.specs.Removal.{same_leaf}
use Rattle.leaf_map.proofs.worked.recovered_space_is_told.Goals as goal

pub returns-clause-whole : goal.returns-clause-whole
unfolding key_rank r5_of same_leaf
returns-clause-whole c = refl

pub returns-clause-half : goal.returns-clause-half
unfolding key_rank r5_of same_leaf
returns-clause-half c = refl

pub returns-clause-lowest : goal.returns-clause-lowest
unfolding key_rank r5_of same_leaf
returns-clause-lowest c = refl

pub returns-clause-two_heads : goal.returns-clause-two_heads
unfolding key_rank r5_of same_leaf
returns-clause-two_heads c = refl

pub returns-clause-replaced : goal.returns-clause-replaced
unfolding key_rank r5_of same_leaf
returns-clause-replaced c = refl

pub returns-clause-numbers : goal.returns-clause-numbers
unfolding key_rank r5_of same_leaf
returns-clause-numbers c = refl

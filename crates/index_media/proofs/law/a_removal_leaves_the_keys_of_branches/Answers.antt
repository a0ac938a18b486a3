use Rattle.index_media.proofs.RemovedContents.{without_leaf_leaves}
use Rattle.index_media.proofs.Removing.{without_leaf_bare, without_leaf_bounded}
use Rattle.index_media.proofs.law.a_removal_leaves_the_keys_of_branches.Goals as goal

pub returns : goal.returns
returns c = record { same = without_leaf_bare; contents = without_leaf_leaves; keys = without_leaf_bounded }

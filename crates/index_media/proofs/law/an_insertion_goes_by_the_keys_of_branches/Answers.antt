use Rattle.index_media.specs.InsertionLaws.{with_leaf_bare, clean_bare}
use Rattle.index_media.proofs.InsertedContents.{with_leaf_leaves, clean_bounded}
use Rattle.index_media.specs.InsertionKeys.{with_leaf_bounded}
use Rattle.index_media.proofs.law.an_insertion_goes_by_the_keys_of_branches.Goals as goal

pub returns : goal.returns
returns c = record { same = with_leaf_bare; contents = with_leaf_leaves; keys = with_leaf_bounded; bounded = clean_bounded; clean = clean_bare }

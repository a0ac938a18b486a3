use Rattle.index_media.proofs.Pruned.{without_range_bare, without_range_leaves, without_range_bounded, pruned_same}
use Rattle.index_media.proofs.law.a_range_removal_leaves_the_keys_of_branches.Goals as goal

pub returns : goal.returns
returns c = record { same = without_range_bare; contents = without_range_leaves; keys = without_range_bounded; untouched = pruned_same }

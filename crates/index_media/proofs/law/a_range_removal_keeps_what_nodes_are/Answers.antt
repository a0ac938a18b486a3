use Rattle.index_media.proofs.Pruned.{pruned_count, pruned_fits, pruned_levelled, pruned_bounded, pruned_keys, without_range_keys}
use Rattle.index_media.proofs.law.a_range_removal_keeps_what_nodes_are.Goals as goal

pub returns : goal.returns
returns c = record { children = pruned_fits; number = pruned_count; levels = pruned_levelled; bounded = pruned_bounded; keys = pruned_keys; whole = without_range_keys }

use Rattle.index_media.proofs.Removing.{removed_bounded}
use Rattle.index_media.proofs.RemovingSound.{removed_count, removed_fits, removed_levelled, removed_keys, without_leaf_keys}
use Rattle.index_media.proofs.law.a_removal_keeps_what_nodes_are.Goals as goal

pub returns : goal.returns
returns c = record { children = removed_fits; number = removed_count; levels = removed_levelled; bounded = removed_bounded; keys = removed_keys; whole = without_leaf_keys }

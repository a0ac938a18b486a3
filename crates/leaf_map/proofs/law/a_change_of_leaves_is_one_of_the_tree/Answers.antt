use Rattle.leaf_map.proofs.Changes.{map_after, map_read, tree_after, tree_read}
use Rattle.leaf_map.proofs.law.a_change_of_leaves_is_one_of_the_tree.Goals as goal

pub returns : goal.returns
returns c = record { tree = tree_after; kept = map_after; read = tree_read; kept_read = map_read }

use Rattle.tree_nodes.proofs.Trees.{highest_is, names_in_order, nodes_are_leaves, nodes_are_live, nodes_show_tree}
use Rattle.tree_nodes.proofs.law.live_nodes_show_their_tree.Goals as goal

pub returns : goal.returns
returns c = record { kept = nodes_are_leaves; tree = nodes_show_tree; highest = highest_is; nodes = nodes_are_live; names = names_in_order }

use Rattle.leaf_map.specs.Recovered.{moved_to_its_copy}
use Rattle.leaf_map.proofs.Copies.{moved_node, same_tree}
use Rattle.leaf_map.proofs.law.a_copy_changes_no_tree.Goals as goal

pub returns : goal.returns
returns c = record { places = same_tree; moved = λ parts kept highest. same_tree (moved_to_its_copy parts kept) kept highest (moved_node parts kept) }

use Rattle.store_model.proofs.ProperFiles.{each_proper}
use Rattle.store_model.proofs.invariant.each_event_keeps_a_proper_tree.Goals as goal

pub returns : goal.returns
returns c = each_proper c.a_dropped_inode_keeps_trees_proper.ensures

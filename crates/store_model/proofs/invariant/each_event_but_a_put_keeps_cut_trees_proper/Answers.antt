use Rattle.store_model.proofs.CutTrees.{each_cut}
use Rattle.store_model.proofs.invariant.each_event_but_a_put_keeps_cut_trees_proper.Goals as goal

pub returns : goal.returns
returns c = each_cut c.a_mount_keeps_trees_proper.ensures

use Rattle.store_model.proofs.DistinctLeaves.{each_distinct}
use Rattle.store_model.proofs.invariant.each_event_keeps_leaves_apart.Goals as goal

pub returns : goal.returns
returns c = each_distinct c.leaves_stay_distinct.ensures

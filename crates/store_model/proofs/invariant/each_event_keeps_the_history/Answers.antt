use Rattle.store_model.proofs.History.{each_history}
use Rattle.store_model.proofs.invariant.each_event_keeps_the_history.Goals as goal

pub returns : goal.returns
returns c = each_history c.the_last_change_wins.ensures.sorted

use Rattle.store_model.proofs.Orphans.{each_orphans}
use Rattle.store_model.proofs.invariant.each_event_keeps_the_orphans.Goals as goal

pub returns : goal.returns
returns c = each_orphans

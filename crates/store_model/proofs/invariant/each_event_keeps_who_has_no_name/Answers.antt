use Rattle.store_model.proofs.Nameless.{each_nameless}
use Rattle.store_model.proofs.invariant.each_event_keeps_who_has_no_name.Goals as goal

pub returns : goal.returns
returns c = each_nameless

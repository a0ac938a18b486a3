use Rattle.store_model.proofs.BareLebs.{each_bare}
use Rattle.store_model.proofs.lebs.each_event_keeps_other_lebs_bare.Goals as goal

pub returns : goal.returns
returns c = each_bare

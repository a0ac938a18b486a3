use Rattle.store_model.proofs.CommittedLeaves.{each_gone}
use Rattle.store_model.proofs.accounts.each_event_keeps_what_is_gone.Goals as goal

pub returns : goal.returns
returns c = each_gone

use Rattle.store_model.proofs.CommittedLeaves.{each_accounted}
use Rattle.store_model.proofs.accounts.each_event_loses_no_committed_leaf.Goals as goal

pub returns : goal.returns
returns c = each_accounted

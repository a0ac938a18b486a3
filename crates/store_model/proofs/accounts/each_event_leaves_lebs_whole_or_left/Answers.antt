use Rattle.store_model.proofs.CommittedLeaves.{each_whole}
use Rattle.store_model.proofs.accounts.each_event_leaves_lebs_whole_or_left.Goals as goal

pub returns : goal.returns
returns c = each_whole

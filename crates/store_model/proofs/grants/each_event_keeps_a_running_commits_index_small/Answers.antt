use Rattle.store_model.proofs.NextIndexes.{each_next_index}
use Rattle.store_model.proofs.grants.each_event_keeps_a_running_commits_index_small.Goals as goal

pub returns : goal.returns
returns c = each_next_index

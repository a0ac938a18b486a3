use Rattle.store_model.specs.Events.{Start}
use Rattle.store_model.proofs.StartNumbers.{start_settled}
use Rattle.store_model.proofs.grants.a_commits_start_keeps_a_store_settled.Goals as goal

pub returns : goal.returns
returns c = λ m taken can s. start_settled c.a_settled_store_can_commit.ensures.twice m taken can s (c.each_event_keeps_a_running_commits_index_small.ensures m (Start taken) can s)

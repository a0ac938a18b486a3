use Rattle.store_model.proofs.ViewCommits.{move_views}
use Rattle.store_model.proofs.law.a_copy_keeps_what_was_committed.Goals as goal

pub returns : goal.returns
returns c = move_views

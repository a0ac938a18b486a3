use Rattle.store_model.proofs.WholeStarts.{start_whole}
use Rattle.store_model.proofs.invariant.a_commit_starts_with_whole_lebs.Goals as goal

pub returns : goal.returns
returns c = λ m taken can s. start_whole m taken can s.apart s.standing.texts s.stands s.whole_or_left

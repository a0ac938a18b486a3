use Rattle.space_sums.proofs.NextIndex.{has_lebs_for_commit, settled_twice}
use Rattle.space_sums.proofs.commits.a_settled_store_can_commit.Goals as goal

pub returns-clause-lebs : goal.returns-clause-lebs
returns-clause-lebs c = has_lebs_for_commit

pub returns-clause-twice : goal.returns-clause-twice
returns-clause-twice c = settled_twice

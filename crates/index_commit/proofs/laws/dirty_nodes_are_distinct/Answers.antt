use Rattle.index_commit.proofs.Twice.{distinct_dirty}
use Rattle.index_commit.proofs.laws.dirty_nodes_are_distinct.Goals as goal

pub returns : goal.returns
returns c = λ paged fit distinct. distinct_dirty paged fit distinct

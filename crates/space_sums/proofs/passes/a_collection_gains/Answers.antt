use Rattle.space_sums.proofs.PassSums.{gain}
use Rattle.space_sums.proofs.passes.a_collection_gains.Goals as goal

pub returns : goal.returns
returns c = gain

use Rattle.log_replay.proofs.InOrder.{found_of_index}
use Rattle.log_replay.proofs.laws.found_leaves_that_differ_are_of_an_index.Goals as goal

pub returns : goal.returns
returns c = found_of_index

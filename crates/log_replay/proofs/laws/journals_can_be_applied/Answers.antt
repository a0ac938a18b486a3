use Rattle.log_replay.proofs.Applied.{can_be_applied}
use Rattle.log_replay.proofs.laws.journals_can_be_applied.Goals as goal

pub returns : goal.returns
returns c = can_be_applied c.nodes_have_places.ensures.leaves

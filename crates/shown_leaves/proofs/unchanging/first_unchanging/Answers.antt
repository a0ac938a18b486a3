use Rattle.shown_leaves.proofs.Contents.{first_unchanging}
use Rattle.shown_leaves.proofs.unchanging.first_unchanging.Goals as goal

pub returns : goal.returns
returns c = record { first = λ placed leaves is. first_unchanging placed c.args.nodes.now c.first_told.result leaves is c.first_told.ensures }

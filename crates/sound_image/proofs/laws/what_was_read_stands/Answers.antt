use Rattle.sound_image.proofs.Replaying.{have_grammar}
use Rattle.sound_image.proofs.StandingNodes.{copies_stand, nodes_stand, placed_grammar}
use Rattle.sound_image.proofs.laws.what_was_read_stands.Goals as goal

pub returns-clause-nodes : goal.returns-clause-nodes
returns-clause-nodes c = nodes_stand

pub returns-clause-copies : goal.returns-clause-copies
returns-clause-copies c = copies_stand

pub returns-clause-grammar : goal.returns-clause-grammar
returns-clause-grammar c = placed_grammar

pub returns-clause-committed : goal.returns-clause-committed
returns-clause-committed c = have_grammar

use Rattle.shown_leaves.proofs.TwoKinds.{kinds_of, of_kinds}
use Rattle.shown_leaves.proofs.laws.wrong_nodes_are_of_two_kinds.Goals as goal

pub returns-clause-of : goal.returns-clause-of
returns-clause-of c parts at wrong = kinds_of parts at wrong

pub returns-clause-to : goal.returns-clause-to
returns-clause-to c parts at wrong = of_kinds parts at wrong

use Rattle.journal_scan.proofs.Placing.{are_leaves, have_places}
use Rattle.journal_scan.proofs.laws.nodes_have_places.Goals as goal

pub returns-clause-leaves : goal.returns-clause-leaves
returns-clause-leaves c = are_leaves

pub returns-clause-places : goal.returns-clause-places
returns-clause-places c = have_places

use Rattle.rows_below.specs.NodeSaid.{node_said_told}
use Rattle.rows_below.specs.RowBelowLaws.{branches_read, row_read_back}
use Rattle.rows_below.proofs.laws.contents_tell_rows.Goals as goal

pub returns-clause-said : goal.returns-clause-said
returns-clause-said c = node_said_told

pub returns-clause-row : goal.returns-clause-row
returns-clause-row c = row_read_back

pub returns-clause-branches : goal.returns-clause-branches
returns-clause-branches c = branches_read

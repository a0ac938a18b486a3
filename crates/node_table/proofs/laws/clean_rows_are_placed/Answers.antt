use Rattle.node_table.proofs.Cleaning.{clean_placed}
use Rattle.node_table.proofs.laws.clean_rows_are_placed.Goals as goal

pub returns : goal.returns
returns c = clean_placed

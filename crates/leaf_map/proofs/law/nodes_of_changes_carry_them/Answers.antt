use Rattle.leaf_map.proofs.Carried.{change_carried}
use Rattle.leaf_map.proofs.law.nodes_of_changes_carry_them.Goals as goal

pub returns : goal.returns
returns c = change_carried

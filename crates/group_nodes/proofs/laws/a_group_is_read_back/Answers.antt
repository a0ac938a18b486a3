use Rattle.group_nodes.proofs.ReadBack.{read_back}
use Rattle.group_nodes.proofs.laws.a_group_is_read_back.Goals as goal

pub returns : goal.returns
returns c = read_back

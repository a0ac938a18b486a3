use Rattle.group_nodes.proofs.kind.kind_of_mode.Goals as goal

pub returns : goal.returns
returns c = c.kind_of_bits.ensures

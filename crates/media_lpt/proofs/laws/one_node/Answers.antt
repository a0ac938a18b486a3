use Rattle.media_lpt.proofs.LawLemmas.{one_pnode, one_nnode, one_ltab, one_lsave}
use Rattle.media_lpt.proofs.laws.one_node.Goals as goal

pub returns-clause-pnode : goal.returns-clause-pnode
returns-clause-pnode c = one_pnode

pub returns-clause-nnode : goal.returns-clause-nnode
returns-clause-nnode c = one_nnode

pub returns-clause-ltab : goal.returns-clause-ltab
returns-clause-ltab c = one_ltab

pub returns-clause-lsave : goal.returns-clause-lsave
returns-clause-lsave c = one_lsave

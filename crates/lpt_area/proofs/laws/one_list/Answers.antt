use Rattle.lpt_area.proofs.OneList.{one_list}
use Rattle.lpt_area.proofs.laws.one_list.Goals as goal

pub returns : goal.returns
returns c geo holds root a b fits = one_list geo holds root a b fits (c.one_node.ensures.nnode geo) (c.one_node.ensures.pnode geo)

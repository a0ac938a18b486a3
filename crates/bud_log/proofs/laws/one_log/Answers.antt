use Rattle.bud_log.proofs.OneLog.{one_log_of}
use Rattle.bud_log.proofs.laws.one_log.Goals as goal

pub returns : goal.returns
returns c = one_log_of c.one_text.ensures c.one_node.ensures

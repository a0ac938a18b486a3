use Rattle.index_check.proofs.StandingNodes.{lack_none}
use Rattle.index_check.proofs.reading.lack_in.Goals as goal

pub returns-in-None : goal.returns-in-None
returns-in-None c = lack_none c.args.front.now (record c.args.branch.now { offs = 0 }) c.in_ok-there.there c.type_byte.result c.in-None.is c.in_ok-there.ensures.none c.type_byte.ensures

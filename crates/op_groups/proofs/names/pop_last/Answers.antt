use Rattle.std.proofs.Common.{arith}
use Rattle.op_groups.proofs.Parts.{popped_front, popped_last}
use Rattle.op_groups.proofs.names.pop_last.Goals as goal

pub returns-clause-front : goal.returns-clause-front
returns-clause-front c = popped_front c.args.names.now.items c.pop.new.self.items c.pop.result _ _ c.pop.ensures.items c.pop.ensures.cases (omega arith)

pub returns-clause-last : goal.returns-clause-last
returns-clause-last c = popped_last c.args.names.now.items c.pop.new.self.items c.pop.result c.pop.ensures.items

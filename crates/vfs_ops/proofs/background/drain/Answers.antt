use Rattle.std.proofs.Common.{refl, ap}
use Rattle.vfs_ops.proofs.Chores.{sure_by}
use Rattle.vfs_ops.proofs.background.drain.Goals as goal

pub returns-clause-did : goal.returns-clause-did
returns-clause-did g c = (refl, c.give_back.ensures.given)

pub returns-clause-sure : goal.returns-clause-sure
returns-clause-sure g c =
    sure_by (g.B.Backing.outlook c.args.backing.now) (g.B.Backing.outlook c.give_back.new.self) (g.B.Backing.state c.args.backing.now) (g.B.Backing.state c.give_back.new.self) c.give_back.ensures.sure (ap (λ s. s.faults) c.give_back.ensures.given)

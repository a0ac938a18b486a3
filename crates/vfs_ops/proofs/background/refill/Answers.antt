use Rattle.std.proofs.Common.{refl, ap}
use Rattle.vfs_ops.proofs.Chores.{refused_by, sure_by}
use Rattle.vfs_ops.proofs.background.refill.Goals as goal

pub returns-in-Ok-clause-did : goal.returns-in-Ok-clause-did
returns-in-Ok-clause-did g c = (refl, (c.in-Ok.ensures.covered.0 refl, c.in-Ok.ensures.ok))

pub returns-in-Err-clause-did : goal.returns-in-Err-clause-did
returns-in-Err-clause-did g c =
    refused_by (g.B.Backing.state c.args.backing.now) (g.B.Backing.state c.admit.new.self) c.args.n c.in-Err.space c.in-Err.ensures.err c.in-Err.ensures.told (λ le. let never = c.in-Err.ensures.covered.1 le in absurd cc)

pub returns-in-Ok-clause-sure : goal.returns-in-Ok-clause-sure
returns-in-Ok-clause-sure g c =
    sure_by (g.B.Backing.outlook c.args.backing.now) (g.B.Backing.outlook c.admit.new.self) (g.B.Backing.state c.args.backing.now) (g.B.Backing.state c.admit.new.self) c.admit.ensures.sure (ap (λ s. s.faults) c.in-Ok.ensures.ok)

pub returns-in-Err-clause-sure : goal.returns-in-Err-clause-sure
returns-in-Err-clause-sure g c =
    sure_by (g.B.Backing.outlook c.args.backing.now) (g.B.Backing.outlook c.admit.new.self) (g.B.Backing.state c.args.backing.now) (g.B.Backing.state c.admit.new.self) c.admit.ensures.sure (ap (λ s. s.faults) c.in-Err.ensures.err)

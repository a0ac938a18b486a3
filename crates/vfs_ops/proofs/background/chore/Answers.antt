use Rattle.std.proofs.Common.{arith}
use Rattle.vfs_ops.proofs.Chores.{ready_by}
use Rattle.vfs_ops.proofs.background.chore.Goals as goal

pub returns-clause-ready : goal.returns-clause-ready
returns-clause-ready g c =
    ready_by (g.B.Backing.state c.args.backing.now) (g.B.Backing.state c.asked.new.backing) c.args.kept.now c.args.event.now c.asked.result c.requires.ready c.requires.few c.asked.ensures.did

pub asked-requires-clause-few : goal.asked-requires-clause-few
asked-requires-clause-few g c = let few = c.requires.few in omega (arith, few)

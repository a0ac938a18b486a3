use Rattle.std.proofs.Common.{rules}
use Rattle.vfs_ops.proofs.Weighing.{fault_told}
use Rattle.vfs_ops.proofs.syncs.put_all.Goals as goal

pub returns-in-Err-clause-grows : goal.returns-in-Err-clause-grows
returns-in-Err-clause-grows g c =
    let f = fault_told (Unit {0}) (Unit {0}) 0 2 c.in-Err.fault (g.B.Backing.state c.args.backing.now) (g.B.Backing.state c.write_back.new.backing) c.args.kept.now c.write_back.new.kept c.in-Err.ensures.grows in
    search (rules, f)

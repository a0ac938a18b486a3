use Rattle.vfs_ops.proofs.Flushing.{file_within}
use Rattle.std.proofs.Common.{rules}
use Rattle.vfs_ops.proofs.Weighing.{fault_told}
use Rattle.vfs_ops.proofs.syncs.put_file.Goals as goal

pub returns-in-Ok-clause-goes : goal.returns-in-Ok-clause-goes
returns-in-Ok-clause-goes g c = file_within c.args.kept.now.pages.dirty c.args.ino (g.B.Backing.state c.args.backing.now) (g.B.Backing.state c.write_back_file.new.backing) c.write_back_file.ensures.goes

pub returns-in-Err-clause-goes : goal.returns-in-Err-clause-goes
returns-in-Err-clause-goes g c = file_within c.args.kept.now.pages.dirty c.args.ino (g.B.Backing.state c.args.backing.now) (g.B.Backing.state c.write_back_file.new.backing) c.write_back_file.ensures.goes

pub returns-in-Err-clause-grows : goal.returns-in-Err-clause-grows
returns-in-Err-clause-grows g c =
    let f = fault_told (Unit {0}) (Unit {0}) 0 2 c.in-Err.fault (g.B.Backing.state c.args.backing.now) (g.B.Backing.state c.write_back_file.new.backing) c.args.kept.now c.write_back_file.new.kept c.in-Err.ensures.grows in
    search (rules, f)

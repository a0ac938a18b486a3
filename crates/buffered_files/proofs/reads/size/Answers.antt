use Rattle.std.proofs.Common.{refl, sym}
use Rattle.buffered_files.proofs.Reading.{kept_size, other_size}
use Rattle.buffered_files.proofs.reads.size.Goals as goal

pub returns-in-Some-clause-size : goal.returns-in-Some-clause-size
returns-in-Some-clause-size g c =
    kept_size (g.B.Backing.state c.args.backing.now).tree c.args.kept.now c.args.ino c.args.inode.now c.in-Some.field-0.now c.requires.kept c.requires.present (sym c.in-Some.ensures)

pub returns-in_ok-size-in-None-clause-size : goal.returns-in_ok-size-in-None-clause-size
returns-in_ok-size-in-None-clause-size g c =
    other_size (g.B.Backing.state c.args.backing.now).tree c.args.kept.now c.args.ino _ c.in_ok-size-in-None.size c.args.inode.now c.requires.kept (sym c.in-None.ensures) refl c.in_ok-size-in-None.ensures.end

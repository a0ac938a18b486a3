use Rattle.std.proofs.Common.{refl, ◌∙◌}
use Rattle.std.specs.Ordering.{nat_cmp}
use Rattle.buffered_files.proofs.Inserts.{restored}
use Rattle.fs_laws.specs.Maps.{set_here}
use Rattle.fs_laws.specs.Orders.{numbers}
use Rattle.buffered_files.proofs.writes.keep.Goals as goal

pub restore-requires : goal.restore-requires
restore-requires c = rw (c.in_ok-old.ensures.ok, set_here nat_cmp numbers c.args.kept.now.inodes c.args.ino c.args.inode) refl

pub returns-in-Err-clause-err : goal.returns-in-Err-clause-err
returns-in-Err-clause-err c =
    c.restore.ensures ∙ restored nat_cmp numbers c.args.kept.now.inodes c.insert.new.self c.args.ino c.args.inode c.in_ok-old.old c.requires c.in_ok-old.ensures.old c.in_ok-old.ensures.ok

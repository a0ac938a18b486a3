use Rattle.std.proofs.Common.{refl}
use Rattle.vfs_ops.proofs.Cutting.{cut_same}
use Rattle.vfs_ops.proofs.Placing.{goes_none}
use Rattle.vfs_ops.proofs.Takes.{alike_on}
use Rattle.vfs_ops.proofs.pages.put.Goals as goal

pub returns-then-not-is_as_picked-clause-put : goal.returns-then-not-is_as_picked-clause-put
returns-then-not-is_as_picked-clause-put g c = record { changed = c.is_as_picked.ensures.no c.if-not-is_as_picked.true; kept_is = refl; now_is = c.version_at-now.ensures; backing = refl; pages = refl }

pub returns-then-not-is_as_picked-clause-same : goal.returns-then-not-is_as_picked-clause-same
returns-then-not-is_as_picked-clause-same g c = alike_on (g.B.Backing.state c.args.backing.now).tree (g.B.Backing.state c.args.backing.now).tree c.args.kept.now refl

pub returns-then-not-is_as_picked-clause-goes : goal.returns-then-not-is_as_picked-clause-goes
returns-then-not-is_as_picked-clause-goes g c = goes_none (g.B.Backing.state c.args.backing.now)

pub returns-then-not-is_as_picked-clause-cut : goal.returns-then-not-is_as_picked-clause-cut
returns-then-not-is_as_picked-clause-cut g c = cut_same (g.B.Backing.state c.args.backing.now) (g.B.Backing.state c.args.backing.now) c.args.kept.now refl

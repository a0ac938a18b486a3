use Rattle.std.proofs.Common.{refl, sym, ◌∙◌}
use Rattle.vfs_ops.proofs.Cutting.{cut_same}
use Rattle.vfs_ops.proofs.Picking.{there}
use Rattle.vfs_ops.proofs.Placing.{goes_none, unasked}
use Rattle.vfs_ops.proofs.Takes.{alike_on}
use Rattle.vfs_ops.proofs.pages.put_current.Goals as goal

pub returns-in-ReadOnly-clause-put : goal.returns-in-ReadOnly-clause-put
returns-in-ReadOnly-clause-put g c =
    let t = there c.args.kept.now c.args.page.now c.requires.current in
    unasked (g.B.Backing.state c.args.backing.now) c.args.kept.now c.args.page.now t.node c.in-ReadOnly.cause t.found c.requires.current (sym c.mode.ensures ∙ c.in-ReadOnly.is)

pub returns-in-ReadOnly-clause-same : goal.returns-in-ReadOnly-clause-same
returns-in-ReadOnly-clause-same g c = alike_on (g.B.Backing.state c.args.backing.now).tree (g.B.Backing.state c.args.backing.now).tree c.args.kept.now refl

pub returns-in-ReadOnly-clause-goes : goal.returns-in-ReadOnly-clause-goes
returns-in-ReadOnly-clause-goes g c = goes_none (g.B.Backing.state c.args.backing.now)

pub returns-in-ReadOnly-clause-cut : goal.returns-in-ReadOnly-clause-cut
returns-in-ReadOnly-clause-cut g c = cut_same (g.B.Backing.state c.args.backing.now) (g.B.Backing.state c.args.backing.now) c.args.kept.now refl

pub put_open-requires-clause-open : goal.put_open-requires-clause-open
put_open-requires-clause-open g c = sym c.mode.ensures ∙ c.in-ReadWrite.is

use Rattle.std.proofs.Common.{ap, arith, refl, sym, ◌∙◌}
use Rattle.fs_model.specs.declared.backing_answers.Mode.{Mode}
use Rattle.buffered_files.specs.CallLaws.{Goes-none, Goes-within}
use Rattle.vfs_ops.specs.Steps.{read_only_cause}
use Rattle.buffered_files.specs.Cuts.GroupFate.{NotPut}
use Rattle.vfs_ops.proofs.Cutting.{call_seen, cut_same, cut_with}
use Rattle.vfs_ops.proofs.Others.{not_closed, same_leave}
use Rattle.vfs_ops.proofs.answers.call.Goals as goal

pub returns-in-Some-clause-others : goal.returns-in-Some-clause-others
returns-in-Some-clause-others g c = same_leave c.args.kept.now c.args.kept.now c.args.caller c.args.op.now refl

pub returns-in-Some-clause-closed : goal.returns-in-Some-clause-closed
returns-in-Some-clause-closed g c is = (refl, refl)

pub returns-in-None-clause-closed : goal.returns-in-None-clause-closed
returns-in-None-clause-closed g c =
    let mode = (g.B.Backing.state c.args.backing.now).mode in
    not_closed (read_only_cause mode c.args.op.now) (ap (λ (m : Mode). read_only_cause m c.args.op.now) (sym c.mode.ensures) ∙ sym c.read_only_cause.ensures ∙ c.in-None.is)

pub returns-in-Some-clause-cut : goal.returns-in-Some-clause-cut
returns-in-Some-clause-cut g c =
    let old = g.B.Backing.state c.args.backing.now in
    call_seen old old c.args.kept.now c.args.caller c.args.now c.args.op.now NotPut (cut_with old old c.args.kept.now _ NotPut refl (cut_same old old c.args.kept.now refl))

pub returns-in-Some-clause-idle : goal.returns-in-Some-clause-idle
returns-in-Some-clause-idle g c = λ sync closed. (refl, refl)

pub returns-in-Some-clause-at_once : goal.returns-in-Some-clause-at_once
returns-in-Some-clause-at_once g c = let old = g.B.Backing.state c.args.backing.now in λ is done out room. (tt, Goes-within 0 _ old old (omega arith) (Goes-none old))

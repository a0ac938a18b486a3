use Rattle.std.proofs.Common.{subst}
use Rattle.plain_backing.specs.PlainBacking.{backing_state_of}
use Rattle.vfs_ops.specs.declared.event.Event.TheVariants.{Call}
use Rattle.vfs_ops.specs.declared.event.Outcome.{Outcome}
use Rattle.vfs_ops.specs.Passing.{IsStep}
use Rattle.script_run.proofs.Answering.{reply_of}
use Rattle.script_run.proofs.AtOnce.{over}
use Rattle.script_run.proofs.session.stepped.Goals as goal

pub reply_in-requires : goal.reply_in-requires
reply_in-requires c =
    reply_of (backing_state_of c.args.fs.now.backing) (backing_state_of c.step.new.self.backing) c.args.fs.now.kept c.step.new.self.kept _ _ c.args.caller c.args.now c.args.op c.step.result c.step.ensures.step.answered

pub returns-clause-step : goal.returns-clause-step
returns-clause-step c =
    let old = c.args.fs.now in
    let new = c.step.new.self in
    let P : Outcome → Type 0 = λ o. IsStep (over old.backing old.kept old.refused.items) (over new.backing new.kept new.refused.items) (Call c.args.caller c.args.now 0 c.args.op) o in
    (c.reply_in.ensures.0, subst P c.reply_in.ensures.1 c.step.ensures.step)

pub returns-clause-sure : goal.returns-clause-sure
returns-clause-sure c = c.step.ensures.sure

use Rattle.std.proofs.Common.{◌+◌, ◌≤◌, length, arith, sym, subst}
use Rattle.vfs_ops.specs.declared.event.Event.{Event}
use Rattle.vfs_ops.specs.declared.event.Outcome.TheVariants.{Replied}
use Rattle.vfs_ops.specs.Events.{IsCalled, grant_of}
use Rattle.vfs_ops.specs.Fs.{files_state}
use Rattle.vfs_ops.specs.Passing.{IsStep}
use Rattle.vfs_ops.proofs.Chores.{step_by}
use Rattle.vfs_ops.proofs.Placing.{pick_step, put_step_at}
use Rattle.vfs_ops.proofs.fs.Fs.step.Goals as goal

pub returns-then-is_chore-clause-step : goal.returns-then-is_chore-clause-step
returns-then-is_chore-clause-step g c =
    let grant = c.requires.grant in
    step_by (files_state c.args.self.now) (g.B.Backing.state c.chore.new.backing) c.args.event.now c.chore.result (omega (arith, grant)) c.chore.ensures.did

pub returns-in-Call-clause-step : goal.returns-in-Call-clause-step
returns-in-Call-clause-step g c =
    let e = c.answer-reply.ensures in
    subst (λ (event : Event). IsStep (files_state c.args.self.now) (files_state c.answer-reply.new.self) event (Replied c.answer-reply.result.0 c.answer-reply.result.1)) (sym c.in-Call.is)
    record {
      answered = (e.answered, e.left);
      exact = e.exact;
      issued = e.issued;
      written = e.written;
      others = e.others;
      weighed = e.weighed;
      orphans = e.orphans;
      admitted = e.admitted;
      at_once = e.at_once;
      buffered = e.buffered;
      cut = e.cut;
      goes = e.goes;
    }

pub returns-in-Pick-clause-step : goal.returns-in-Pick-clause-step
returns-in-Pick-clause-step g c =
    subst (λ (event : Event). IsStep (files_state c.args.self.now) (files_state c.args.self.now) event c.picked.result) (sym c.in-Pick.is) (pick_step (files_state c.args.self.now) c.picked.result c.picked.ensures)

pub returns-in-Put-clause-step : goal.returns-in-Put-clause-step
returns-in-Put-clause-step g c =
    let e = c.put.ensures in
    put_step_at (files_state c.args.self.now) (g.B.Backing.state c.put.new.backing) c.put.new.kept c.args.event.now _ c.put.result c.in-Put.is e.put e.same e.issued e.weighed e.orphans e.cut e.goes

pub picked-requires : goal.picked-requires
picked-requires g c = c.args.self.now.ready.kept_fits.pages

pub answer-reply-requires-clause-call : goal.answer-reply-requires-clause-call
answer-reply-requires-clause-call g c = (subst (λ (event : Event). IsCalled event) c.in-Call.is c.requires.call)

pub answer-reply-requires-clause-grant : goal.answer-reply-requires-clause-grant
answer-reply-requires-clause-grant g c =
    subst (λ (event : Event). length c.args.self.now.kept.pages.dirty + grant_of event ≤ (g.B.Backing.state c.args.self.now.backing).space.credits) c.in-Call.is c.requires.grant

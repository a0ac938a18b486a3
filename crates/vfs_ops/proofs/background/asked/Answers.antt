use Rattle.std.proofs.Common.{◌≤◌, subst, sym, ◌∙◌}
use Rattle.vfs_ops.specs.declared.event.Event.{Event}
use Rattle.vfs_ops.specs.Background.{IsChore}
use Rattle.vfs_ops.specs.Events.{IsCalled, grant_of}
use Rattle.vfs_ops.proofs.Chores.{closed_by, work_by}
use Rattle.vfs_ops.proofs.background.asked.Goals as goal

pub returns-in-Refill-clause-did : goal.returns-in-Refill-clause-did
returns-in-Refill-clause-did g c = subst (λ (e : Event). IsChore (g.B.Backing.state c.args.backing.now) (g.B.Backing.state c.refill.new.backing) e c.refill.result) (sym c.in-Refill.is) c.refill.ensures.did

pub returns-in-Drain-clause-did : goal.returns-in-Drain-clause-did
returns-in-Drain-clause-did g c = subst (λ (e : Event). IsChore (g.B.Backing.state c.args.backing.now) (g.B.Backing.state c.drain.new.backing) e c.drain.result) (sym c.in-Drain.is) c.drain.ensures.did

pub refill-requires-clause-few : goal.refill-requires-clause-few
refill-requires-clause-few g c = subst (λ (e : Event). IsCalled e) c.in-Refill.is c.requires.call

pub drain-requires : goal.drain-requires
drain-requires g c =
    record { few = subst (λ (e : Event). grant_of e ≤ (g.B.Backing.state c.args.backing.now).space.credits) c.in-Drain.is c.requires.few }

pub returns-in-ReadOnly-clause-did : goal.returns-in-ReadOnly-clause-did
returns-in-ReadOnly-clause-did g c =
    closed_by (g.B.Backing.state c.args.backing.now) c.in-ReadOnly.cause c.args.event.now (work_by c.args.event.now c.requires.kind c.in_default.not-Refill c.in_default.not-Drain) (sym c.mode.ensures ∙ c.in-ReadOnly.is)

pub worked-requires-clause-kind : goal.worked-requires-clause-kind
worked-requires-clause-kind g c = work_by c.args.event.now c.requires.kind c.in_default.not-Refill c.in_default.not-Drain

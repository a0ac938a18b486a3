use Rattle.std.proofs.Common.{subst, sym}
use Rattle.vfs_ops.specs.declared.event.Event.{Event}
use Rattle.vfs_ops.specs.Background.{IsChore}
use Rattle.vfs_ops.proofs.background.worked.Goals as goal

pub returns-in-Sync-clause-did : goal.returns-in-Sync-clause-did
returns-in-Sync-clause-did g c = subst (λ (e : Event). IsChore (g.B.Backing.state c.args.backing.now) (g.B.Backing.state c.sync.new.backing) e c.sync.result) (sym c.in-Sync.is) c.sync.ensures.did

pub returns-in-Collect-clause-did : goal.returns-in-Collect-clause-did
returns-in-Collect-clause-did g c = subst (λ (e : Event). IsChore (g.B.Backing.state c.args.backing.now) (g.B.Backing.state c.collect.new.backing) e c.collect.result) (sym c.in-Collect.is) c.collect.ensures.did

pub returns-in-CommitStart-clause-did : goal.returns-in-CommitStart-clause-did
returns-in-CommitStart-clause-did g c = subst (λ (e : Event). IsChore (g.B.Backing.state c.args.backing.now) (g.B.Backing.state c.commit_start.new.backing) e c.commit_start.result) (sym c.in-CommitStart.is) c.commit_start.ensures.did

pub returns-in-CommitStep-clause-did : goal.returns-in-CommitStep-clause-did
returns-in-CommitStep-clause-did g c = subst (λ (e : Event). IsChore (g.B.Backing.state c.args.backing.now) (g.B.Backing.state c.commit_step.new.backing) e c.commit_step.result) (sym c.in-CommitStep.is) c.commit_step.ensures.did

pub returns-in-CommitEnd-clause-did : goal.returns-in-CommitEnd-clause-did
returns-in-CommitEnd-clause-did g c = subst (λ (e : Event). IsChore (g.B.Backing.state c.args.backing.now) (g.B.Backing.state c.commit_end.new.backing) e c.commit_end.result) (sym c.in-CommitEnd.is) c.commit_end.ensures.did

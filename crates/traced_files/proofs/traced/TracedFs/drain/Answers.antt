use Rattle.std.proofs.Common.{◌∙◌, subst}
use Rattle.vfs_ops.specs.declared.event.Event.{Event}
use Rattle.vfs_ops.specs.Passing.{IsStep}
use Rattle.vfs_ops.specs.declared.event.Event.TheVariants.{Drain}
use Rattle.vfs_ops.specs.Fs.{files_state}
use Rattle.traced_files.proofs.Keeping.{AreStates, traced_beside}
use Rattle.traced_files.proofs.traced.TracedFs.drain.Goals as goal

pub invariant_of-self : goal.invariant_of-self
invariant_of-self g c =
    let i = c.self.invariant in
    let states : AreStates (files_state c.self.inside.credited.fs) (files_state c.drain.new.self.fs) = record {
      ready = c.self.inside.credited.fs.ready;
      after = c.drain.new.self.fs.ready;
      used = g.met.B.Backing.used c.drain.new.self.fs.backing;
      first = g.met.B.Backing.main c.self.inside.credited.fs.backing;
      main = g.met.B.Backing.main c.drain.new.self.fs.backing;
      journal = g.met.B.Backing.journal c.self.inside.credited.fs.backing;
      journal_after = g.met.B.Backing.journal c.drain.new.self.fs.backing;
    } in (
      traced_beside g.J.Site.word g.J.Site.start (files_state c.self.inside.credited.fs) (files_state c.drain.new.self.fs) (Drain c.drain.ensures.event.0) c.drain.result.outcome (g.B.Backing.outlook c.self.inside.credited.fs.backing) (g.B.Backing.outlook c.drain.new.self.fs.backing) c.self.inside.recorder c.self.inside.trace.items c.laws.ensures i.0 (subst (λ (e : Event). IsStep (files_state c.self.inside.credited.fs) (files_state c.drain.new.self.fs) e c.drain.result.outcome) c.drain.ensures.event.1 c.drain.ensures.step) c.drain.ensures.sure states,
      c.drain.ensures.same.0 ∙ c.requires,
      c.drain.ensures.same.1 ∙ i.2,
    )

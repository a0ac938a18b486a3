use Rattle.std.proofs.Common.{◌∙◌}
use Rattle.vfs_ops.specs.declared.event.Event.TheVariants.{Refill}
use Rattle.vfs_ops.specs.Fs.{files_state}
use Rattle.traced_files.proofs.Keeping.{AreStates, traced_beside}
use Rattle.traced_files.proofs.traced.TracedFs.refill.Goals as goal

pub invariant_of-self : goal.invariant_of-self
invariant_of-self g c =
    let i = c.self.invariant in
    let states : AreStates (files_state c.self.inside.credited.fs) (files_state c.refill.new.self.fs) = record {
      ready = c.self.inside.credited.fs.ready;
      after = c.refill.new.self.fs.ready;
      used = g.met.B.Backing.used c.refill.new.self.fs.backing;
      first = g.met.B.Backing.main c.self.inside.credited.fs.backing;
      main = g.met.B.Backing.main c.refill.new.self.fs.backing;
      journal = g.met.B.Backing.journal c.self.inside.credited.fs.backing;
      journal_after = g.met.B.Backing.journal c.refill.new.self.fs.backing;
    } in (
      traced_beside g.J.Site.word g.J.Site.start (files_state c.self.inside.credited.fs) (files_state c.refill.new.self.fs) (Refill c.args.n) c.refill.result.outcome (g.B.Backing.outlook c.self.inside.credited.fs.backing) (g.B.Backing.outlook c.refill.new.self.fs.backing) c.self.inside.recorder c.self.inside.trace.items c.laws.ensures i.0 c.refill.ensures.step c.refill.ensures.sure states,
      c.refill.ensures.same.0 ∙ c.requires.pool,
      c.refill.ensures.same.1 ∙ i.2,
    )

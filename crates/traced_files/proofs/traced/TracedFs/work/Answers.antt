use Rattle.vfs_ops.specs.Fs.{files_state}
use Rattle.std.proofs.Common.{ap, ◌∙◌}
use Rattle.credit_pool.specs.States.{MasterState}
use Rattle.traced_files.proofs.Keeping.{AreStates, traced_between}
use Rattle.traced_files.proofs.traced.TracedFs.work.Goals as goal

pub invariant_of-self : goal.invariant_of-self
invariant_of-self g c =
    let i = c.self.invariant in
    let states : AreStates (files_state c.self.inside.credited.fs) (files_state c.work.new.self.fs) = record {
      ready = c.self.inside.credited.fs.ready;
      after = c.work.new.self.fs.ready;
      used = g.met.B.Backing.used c.work.new.self.fs.backing;
      first = g.met.B.Backing.main c.self.inside.credited.fs.backing;
      main = g.met.B.Backing.main c.work.new.self.fs.backing;
      journal = g.met.B.Backing.journal c.self.inside.credited.fs.backing;
      journal_after = g.met.B.Backing.journal c.work.new.self.fs.backing;
    } in (
      traced_between g.J.Site.word g.J.Site.start (files_state c.self.inside.credited.fs) (files_state c.work.new.self.fs) c.args.event c.work.result.outcome (g.B.Backing.outlook c.self.inside.credited.fs.backing) (g.B.Backing.outlook c.work.new.self.fs.backing) c.self.inside.recorder c.self.inside.trace.items c.laws.ensures i.0 c.requires.kind c.work.ensures.step c.work.ensures.sure states,
      ap (λ (m : MasterState). m.pool) c.work.ensures.same.0 ∙ i.1,
      c.work.ensures.same.1 ∙ i.2,
    )

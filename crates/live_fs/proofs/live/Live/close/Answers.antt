use Rattle.std.proofs.Common.{◌≡◌, List, All, subst, sym, ◌∙◌}
use Rattle.atomic_table.specs.Seated.{TableId}
use Rattle.vfs_ops.specs.Fs.{files_state}
use Rattle.fs_model.specs.declared.trace.TraceLine.{TraceLine}
use Rattle.traced_files.specs.Calls.{AreLinesLegal, IsClosedHistory, StandsInTrace}
use Rattle.traced_files.specs.States.{TracedPassState}
use Rattle.live_fs.proofs.live.Live.close.Goals as goal

pub meet_all-requires-clause-passes : goal.meet_all-requires-clause-passes
meet_all-requires-clause-passes g c = subst (λ (w : TableId). All (λ (p : TracedPassState). p.word ≡ w) c.args.passes.items) (sym c.args.self.of_word) c.requires

pub returns-clause-history : goal.returns-clause-history
returns-clause-history g c =
    subst (λ (x : List TraceLine). IsClosedHistory g.J.Site.start x (files_state c.finish-fs.result.fs) (g.B.Backing.outlook c.finish-fs.result.fs.backing)) (sym c.finish-fs.ensures.trace) c.finish-fs.ensures.history

pub returns-clause-legal : goal.returns-clause-legal
returns-clause-legal g c =
    subst (λ (x : List TraceLine). AreLinesLegal g.J.Site.start x (files_state c.finish-fs.result.fs) (g.B.Backing.outlook c.finish-fs.result.fs.backing)) (sym c.finish-fs.ensures.trace) c.finish-fs.ensures.legal

pub returns-clause-passes : goal.returns-clause-passes
returns-clause-passes g c =
    subst (λ (t : List TraceLine). All (λ (p : TracedPassState). StandsInTrace t p) c.args.passes.items) (c.finish-fs.ensures.recorder.1 ∙ sym c.finish-fs.ensures.trace) c.meet_all.ensures.passes

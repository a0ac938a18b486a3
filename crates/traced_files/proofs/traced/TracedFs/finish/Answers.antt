use Rattle.std.proofs.Common.{subst}
use Rattle.vfs_ops.specs.Fs.{files_state}
use Rattle.traced_files.specs.Calls.{AreLinesLegal, IsClosedHistory}
use Rattle.traced_files.specs.Start.{opening_at}
use Rattle.traced_files.specs.States.{TracedState}
use Rattle.traced_files.proofs.Keeping.{history_credits, left_credits, sure_on}
use Rattle.traced_files.proofs.Legality.{history_is_legal}
use Rattle.traced_files.proofs.traced.TracedFs.finish.Goals as goal

pub returns-clause-history : goal.returns-clause-history
returns-clause-history g c =
    let i = c.self.invariant.0 in
    let old = files_state c.self.inside.credited.fs in
    let new = files_state c.finish.result in
    subst (λ (x : TracedState). IsClosedHistory g.J.Site.start x.trace new (g.B.Backing.outlook c.finish.result.backing)) c.self.view_is (record {
      history = history_credits (opening_at g.J.Site.start) g.J.Site.start.files.refused c.self.inside.trace.items old new c.finish.ensures.only i.history;
      sure = sure_on g.J.Site.start old.backing new.backing (g.B.Backing.outlook c.self.inside.credited.fs.backing) (g.B.Backing.outlook c.finish.result.backing) i.sure c.finish.ensures.sure;
      left = left_credits g.J.Site.start c.self.inside.trace.items old new c.finish.ensures.only i.left;
    })

pub returns-clause-legal : goal.returns-clause-legal
returns-clause-legal g c =
    let i = c.self.invariant.0 in
    let old = files_state c.self.inside.credited.fs in
    let new = files_state c.finish.result in
    subst (λ (x : TracedState). AreLinesLegal g.J.Site.start x.trace new (g.B.Backing.outlook c.finish.result.backing)) c.self.view_is
    (history_is_legal c.alike_files_are_the_same.ensures (opening_at g.J.Site.start) g.J.Site.start.files.refused c.self.inside.trace.items new (g.B.Backing.outlook c.finish.result.backing)
    (history_credits (opening_at g.J.Site.start) g.J.Site.start.files.refused c.self.inside.trace.items old new c.finish.ensures.only i.history)
    (sure_on g.J.Site.start old.backing new.backing (g.B.Backing.outlook c.self.inside.credited.fs.backing) (g.B.Backing.outlook c.finish.result.backing) i.sure c.finish.ensures.sure))

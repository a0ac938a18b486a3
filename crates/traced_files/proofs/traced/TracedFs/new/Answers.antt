use Rattle.std.proofs.Common.{◌≡◌, List, ap, subst, sym, ◌∙◌}
use Rattle.credit_pool.specs.States.{MasterState}
use Rattle.fs_model.specs.declared.trace.TraceLine.{TraceLine}
use Rattle.fs_model.specs.Backing.{Outlook}
use Rattle.vfs_ops.specs.Fs.{files_state}
use Rattle.traced_files.specs.Traced.{IsTraced}
use Rattle.traced_files.proofs.Keeping.{traced_first}
use Rattle.traced_files.proofs.traced.TracedFs.new.Goals as goal

pub invariant_of-result : goal.invariant_of-result
invariant_of-result g c =
    let k = c.requires.ledger in
    let now = files_state c.new.result.fs in
    let outlook = g.B.Backing.outlook c.new.result.fs.backing in
    let is : now ≡ files_state c.args.fs = λ i. files_state (c.new.ensures.0 i) in
    let same : outlook ≡ g.B.Backing.outlook c.args.fs.backing = λ i. g.B.Backing.outlook (c.new.ensures.0 i).backing in (
      subst (λ (t : List TraceLine). IsTraced g.J.Site.word g.J.Site.start now outlook c.args.ledger.recorder t) (sym c.new-2.ensures.items)
          (traced_first g.J.Site.word g.J.Site.start now outlook c.args.ledger.recorder (is ∙ c.requires.start) c.new.result.fs.ready.sound (λ sure. subst (λ (o : Outlook). o.sure) (sym same) (c.requires.sure sure)) (k.0, k.1)),
      ap (λ (m : MasterState). m.pool) (c.new.ensures.1 ∙ k.2),
      c.new.ensures.2 ∙ k.3,
    )

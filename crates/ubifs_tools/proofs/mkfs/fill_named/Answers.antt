use Rattle.std.proofs.Common.{List, ℕ, ap, subst, ◌∙◌}
use Rattle.manifest_tree.specs.CopiedFiles.{with_files}
use Rattle.manifest_tree.specs.declared.copied.CopiedFile.{CopiedFile}
use Rattle.ubifs_tools.specs.Copies.{AreCopiesTold, AreReadCopies}
use Rattle.ubifs_tools.specs.declared.copies.Copies.{Copies}
use Rattle.ubifs_tools.proofs.Readings.{filled_with, unfilled}
use Rattle.ubifs_tools.proofs.mkfs.fill_named.Goals as goal

pub returns-in_ok-fill_copied-in-Read-clause-copied : goal.returns-in_ok-fill_copied-in-Read-clause-copied
returns-in_ok-fill_copied-in-Read-clause-copied g c = λ text is.
    let old = g.K.Keeper.state c.args.keeper.now in
    let named = c.args.named in
    let P : Copies → Type 0 = λ d. AreReadCopies old (g.K.Keeper.state c.read_copies.new.keeper) c.deref.result.now d in
    let Q : List CopiedFile → Type 0 = λ l. AreCopiesTold old l c.in-Read.files.items in (
      filled_with old text named.volume named.copied.items named.tree c.fill_copied.new.tree c.in-Read.files.items is
          (subst Q c.deref.ensures.value (subst P c.in-Read.is c.in_ok-line.ensures.read))
          (c.in_ok-fill_copied-in-Read.ensures.filled ∙ (ap (λ (l : List CopiedFile). with_files l c.deref-in-Read-2.result.now named.tree) c.deref-in-Read.ensures.value
          ∙ ap (λ (f : List (List ℕ)). with_files named.copied.items f named.tree) c.deref-in-Read-2.ensures.value)),
      c.fill_copied.ensures.proper,
    )

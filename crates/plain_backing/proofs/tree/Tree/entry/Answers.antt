use Rattle.std.proofs.Common.{ap, sym, ◌∙◌}
use Rattle.std.specs.Option.{option_map}
use Rattle.std.specs.Map.{lookup}
use Rattle.std.specs.BTreeMap.{is_at}
use Rattle.plain_backing.specs.Cells.{seen_cells}
use Rattle.fs_model.specs.Files.{name_cmp}
use Rattle.plain_backing.specs.TreeCells.{entry_of, entries_of_names}
use Rattle.plain_backing.proofs.Counted.{entries_of-lookup}
use Rattle.plain_backing.proofs.tree.Tree.entry.Goals as goal

pub returns : goal.returns
returns c =
    let cells = seen_cells c.self.inside.cells.entries.entries in
    c.named.ensures ∙ ap (option_map (entry_of c.in_ok-key.key)) c.held.ensures ∙ sym (entries_of-lookup cells c.in_ok-key.key)
    ∙ ap (λ key. lookup (is_at (name_cmp key)) (entries_of_names cells)) c.in_ok-key.ensures
    ∙ ap (λ t. lookup (is_at (name_cmp (c.args.dir, c.args.name.now))) t.entries) c.self.view_is

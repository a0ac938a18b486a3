use Rattle.std.proofs.Common.{sym, ap, ◌∙◌}
use Rattle.plain_backing.specs.Cells.{seen_cells}
use Rattle.plain_backing.proofs.Seen.{seen-insert_empty, none_from}
use Rattle.plain_backing.proofs.cell.make_cell.Goals as goal

pub returns-in-Ok-clause-same : goal.returns-in-Ok-clause-same
returns-in-Ok-clause-same g c =
    ap seen_cells c.in-Ok.ensures.entries ∙ seen-insert_empty g.K.Ord.cmp c.args.map.now.entries c.args.key (none_from _ (sym c.contains_key.ensures ∙ c.if-contains_key.false))

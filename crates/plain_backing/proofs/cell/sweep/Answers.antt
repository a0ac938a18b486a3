use Rattle.std.proofs.Common.{sym, ap, ◌∙◌}
use Rattle.std.specs.BTreeMap.{is_at}
use Rattle.plain_backing.specs.Cells.{seen_cells}
use Rattle.plain_backing.proofs.Seen.{seen-remove_entry, empty_from}
use Rattle.plain_backing.proofs.cell.sweep.Goals as goal

pub returns-then-is_empty : goal.returns-then-is_empty
returns-then-is_empty g c = record {
  same = ap seen_cells c.remove.ensures.entries ∙ seen-remove_entry (is_at (g.K.Ord.cmp c.args.key.now)) c.args.map.now.entries (empty_from _ (sym c.is_empty.ensures ∙ c.if-is_empty.true));
}

use Rattle.plain_backing.proofs.Counted.{entry_made}
use Rattle.plain_backing.proofs.tree_cells.set_entry.Goals as goal

pub returns : goal.returns
returns c =
    let put = c.put-old.ensures in
    entry_made c.args.cells.now c.put-old.new.map c.args.entry c.from_name.result c.put-old.result c.name_bytes-added.result c.freed_name.result c.max-cells.result c.from_name.ensures put.ordered c.requires.room put.cells put.old c.name_bytes-added.ensures c.freed_name.ensures c.requires.counted c.max-cells.ensures

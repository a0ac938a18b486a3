use Rattle.std.proofs.Common.{refl}
use Rattle.plain_backing.proofs.Counted.{entry_dropped}
use Rattle.plain_backing.proofs.tree_cells.drop_entry.Goals as goal

pub overflow_sub-cells : goal.overflow_sub-cells
overflow_sub-cells c =
    let put = c.put-old.ensures in
    (entry_dropped c.args.cells.now c.put-old.new.map c.args.dir c.args.name c.from_name.result c.put-old.result c.name_bytes-size.result c.freed_name.result _ c.from_name.ensures put.ordered put.cells put.old c.name_bytes-size.ensures c.freed_name.ensures c.requires.counted refl).0

pub returns : goal.returns
returns c =
    let put = c.put-old.ensures in
    (entry_dropped c.args.cells.now c.put-old.new.map c.args.dir c.args.name c.from_name.result c.put-old.result c.name_bytes-size.result c.freed_name.result c.max-cells.result c.from_name.ensures put.ordered put.cells put.old c.name_bytes-size.ensures c.freed_name.ensures c.requires.counted c.max-cells.ensures).1

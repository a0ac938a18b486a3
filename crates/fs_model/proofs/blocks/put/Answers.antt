use Rattle.std.proofs.lemmas.Map.Entries.{sum_by-insert_entry}
use Rattle.fs_model.proofs.Orders.{pair_cmp-total}
use Rattle.fs_model.proofs.blocks.put.Goals as goal

pub returns-in-Ok-clause-total : goal.returns-in-Ok-clause-total
returns-in-Ok-clause-total c = λ f.
    let told = c.in-Ok.ensures in
    rw (told.entries, told.old) (sum_by-insert_entry f pair_cmp-total c.args.map.now.entries (c.args.ino, c.args.block) c.args.bytes c.insert.ensures.was_ordered)

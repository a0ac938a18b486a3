use Rattle.std.proofs.Common.{refl}
use Rattle.plain_backing.proofs.Counted.{name_cmp-total}
use Rattle.plain_backing.proofs.Listing.{forward, names_begin}
use Rattle.plain_backing.proofs.tree_reads.entries_in.Goals as goal

pub range-names-requires : goal.range-names-requires
range-names-requires c = forward name_cmp-total (c.args.dir, c.first.result) c.names_end.result (c.names_end.ensures (c.args.dir, c.first.result) refl)

pub loop-key-init : goal.loop-key-init
loop-key-init c = names_begin c.args.dir c.first.result c.names_end.result c.args.map.now.entries c.range-names.result c.new-entries.result.items c.first.ensures c.names_end.ensures (c.range-names.ensures.between tt) c.new-entries.ensures.items

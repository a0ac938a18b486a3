use Rattle.std.proofs.Common.{refl}
use Rattle.plain_backing.proofs.Listing.{forward}
use Rattle.plain_backing.proofs.Orders.{pair_cmp-total}
use Rattle.plain_backing.proofs.Visits.{visit_begins}
use Rattle.plain_backing.proofs.tree_rows.BlockRows.new.Goals as goal

pub range-requires : goal.range-requires
range-requires c = forward pair_cmp-total (c.args.ino, 0) c.blocks_end.result (c.blocks_end.ensures (c.args.ino, 0) refl)

pub returns : goal.returns
returns c = visit_begins c.args.ino c.blocks_end.result c.args.map.now.entries c.range.result c.blocks_end.ensures (c.range.ensures.between tt)

use Rattle.std.proofs.Common.{length}
use Rattle.ubifs_base.specs.RawOf.{raw_of}
use Rattle.image_check.specs.PropertyWalk.{lpt_leb_in, pnodes}
use Rattle.image_check.proofs.WalkedRows.{RowSoFar}
use Rattle.image_check.proofs.property_rows.pnode_row.Given as goal

-- whatever the rest of the row says, the whole row says it behind what was said so far
abbrev pub invariant-reading : goal.invariant-reading
invariant-reading l = RowSoFar (pnodes (raw_of l.geo)) l.root (lpt_leb_in (raw_of l.geo) l.fn.area) l.fn.row l.fn.first l.left l.now l.all.items

abbrev pub decreases-reading : goal.decreases-reading
decreases-reading l = length l.left

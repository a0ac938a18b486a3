use Rattle.std.proofs.Common.{◌≡◌, length}
use Rattle.ubifs_base.specs.Properties.{pnode_len}
use Rattle.ubifs_base.specs.RawOf.{raw_of}
use Rattle.lpt_area.specs.Tree.{HasPnode, empty_leb}
use Rattle.lpt_area.proofs.ReadSoFar.{RowSoFar}
use Rattle.lpt_area.proofs.rows.pnode_row.Given as goal

-- the places so far are read
abbrev pub invariant-loop-place : goal.invariant-loop-place
invariant-loop-place g l =
    RowSoFar (HasPnode (raw_of l.geo)) (empty_leb (raw_of l.geo)) (g.V.Volume.state l.fn.volume) (g.V.Volume.state l.volume) l.row l.place-index l.all.items
    × (length l.node.items ≡ pnode_len (raw_of l.geo))

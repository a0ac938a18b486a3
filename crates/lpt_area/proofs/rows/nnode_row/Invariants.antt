use Rattle.std.proofs.Common.{◌≡◌, length}
use Rattle.std.specs.List.{All}
use Rattle.ubifs_base.specs.Properties.{nnode_len}
use Rattle.ubifs_base.specs.RawOf.{raw_of}
use Rattle.media_lpt.specs.Nodes.{IsPlace}
use Rattle.lpt_area.specs.Tree.{HasNnode, no_place}
use Rattle.lpt_area.proofs.ReadSoFar.{RowSoFar}
use Rattle.lpt_area.proofs.rows.nnode_row.Given as goal

-- the places so far are read, and name places of the area
abbrev pub invariant-loop-place : goal.invariant-loop-place
invariant-loop-place g l =
    RowSoFar (HasNnode (raw_of l.geo)) no_place (g.V.Volume.state l.fn.volume) (g.V.Volume.state l.volume) l.row l.place-index l.all.items
    × All (IsPlace (raw_of l.geo)) l.all.items × (length l.node.items ≡ nnode_len (raw_of l.geo))

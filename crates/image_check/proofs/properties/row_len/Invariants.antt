use Rattle.std.proofs.Common.{◌≡◌}
use Rattle.ubifs_base.specs.RawOf.{raw_of}
use Rattle.lpt_area.specs.Tree.{row_len}
use Rattle.image_check.proofs.properties.row_len.Given as goal

abbrev pub invariant-loop-below : goal.invariant-loop-below
invariant-loop-below l = l.nodes ≡ row_len (raw_of l.geo) l._below

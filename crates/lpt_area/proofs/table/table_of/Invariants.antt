use Rattle.std.proofs.Common.{◌≡◌}
use Rattle.ubifs_base.specs.Areas.{lpt_first}
use Rattle.ubifs_base.specs.RawOf.{raw_of}
use Rattle.lpt_area.specs.Written.{rows_from}
use Rattle.lpt_area.proofs.table.table_of.Given as goal

-- the rows so far
abbrev pub invariant-loop-leb : goal.invariant-loop-leb
invariant-loop-leb l = l.rows.items ≡ rows_from (raw_of l.geo) l.lnum l.leb (lpt_first (raw_of l.geo))

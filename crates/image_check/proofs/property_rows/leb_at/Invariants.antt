use Rattle.std.proofs.Common.{◌≡◌, ◌-◌}
use Rattle.ubifs_base.specs.Areas.{lpt_first}
use Rattle.ubifs_base.specs.RawOf.{raw_of}
use Rattle.image_check.specs.PropertyWalk.{lebs_behind}
use Rattle.image_check.proofs.property_rows.leb_at.Given as goal

-- what is left is behind the LEBs that were passed
abbrev pub invariant-loop-before : goal.invariant-loop-before
invariant-loop-before l = lebs_behind l.geo.leb_size (l.lnum - l._before) l.rest ≡ lebs_behind l.geo.leb_size (l.lnum - lpt_first (raw_of l.geo)) l.fn.area

use Rattle.ubifs_base.specs.RawOf.{raw_of}
use Rattle.image_check.specs.PropertyWalk.{IsWalkedTo, lpt_leb_in}
use Rattle.image_check.proofs.properties.pnode_places.Given as goal

-- the rows down to this level were gone over
abbrev pub invariant-loop-level : goal.invariant-loop-level
invariant-loop-level l = IsWalkedTo (raw_of l.geo) l.fn.master (lpt_leb_in (raw_of l.geo) l.fn.area) l.level l.read.all.items l.read.first

abbrev pub decreases-loop-level : goal.decreases-loop-level
decreases-loop-level l = l.level

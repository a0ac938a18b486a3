use Rattle.ubifs_base.specs.GeometryLaws.{min_io-mod}
use Rattle.ubifs_base.specs.RawOf.{raw_of}
use Rattle.small_areas.proofs.Rooms.{mod_through}
use Rattle.small_areas.proofs.orphans.list_size.Goals as goal

pub returns-then-is_empty-clause-words : goal.returns-then-is_empty-clause-words
returns-then-is_empty-clause-words c = min_io-mod (raw_of c.args.geometry.now) c.args.geometry.now.in_range

pub returns-clause-words : goal.returns-clause-words
returns-clause-words c = mod_through c.in_units.result c.args.geometry.now.min_io 8 c.in_units.ensures.whole (min_io-mod (raw_of c.args.geometry.now) c.args.geometry.now.in_range)

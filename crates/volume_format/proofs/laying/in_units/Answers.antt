use Rattle.std.proofs.Common.{◌+◌, ◌-◌, ◌*◌, ◌/◌}
use Rattle.ubifs_base.specs.GeometryLaws.{min_io-mod}
use Rattle.ubifs_base.specs.RawOf.{raw_of}
use Rattle.volume_format.proofs.Units.{mod_through, whole_units}
use Rattle.volume_format.proofs.laying.in_units.Goals as goal

pub returns-clause-whole : goal.returns-clause-whole
returns-clause-whole c = whole_units ((c.args.len + (c.args.geometry.now.min_io - 1)) / c.args.geometry.now.min_io) c.args.geometry.now.min_io

pub returns-clause-words : goal.returns-clause-words
returns-clause-words c =
    let u = c.args.geometry.now.min_io in
    let q = (c.args.len + (u - 1)) / u in
    mod_through (q * u) u 8 (whole_units q u) (min_io-mod (raw_of c.args.geometry.now) c.args.geometry.now.in_range)

use Rattle.std.proofs.Common.{arith}
use Rattle.ubifs_base.specs.GeometryLaws.{leb_size-mod}
use Rattle.ubifs_base.specs.RawOf.{raw_of}
use Rattle.volume_format.proofs.Units.{mod_left}
use Rattle.volume_format.proofs.properties.behind.Goals as goal

pub returns-clause-possible : goal.returns-clause-possible
returns-clause-possible c =
    let more = c.in_units-size.ensures.more in
    let fits = c.in_units-size.ensures.fits in
    record {
      free = mod_left c.args.geometry.now.leb_size c.in_units-size.result 8 (leb_size-mod (raw_of c.args.geometry.now) c.args.geometry.now.in_range) c.in_units-size.ensures.words;
      dirty = mod_left c.in_units-size.result c.args.len 8 c.in_units-size.ensures.words c.requires.words;
      room = omega (arith, more, fits);
    }

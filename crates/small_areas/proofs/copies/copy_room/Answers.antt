use Rattle.std.proofs.Common.{arith}
use Rattle.ubifs_base.specs.GeometryLaws.{min_io-mod}
use Rattle.ubifs_base.specs.RawOf.{raw_of}
use Rattle.small_areas.specs.Copies.{room_of}
use Rattle.small_areas.proofs.Rooms.{room_low, room_high, room_whole, mod_through}
use Rattle.small_areas.proofs.copies.copy_room.Goals as goal

pub returns-clause-is_room : goal.returns-clause-is_room
returns-clause-is_room c =
    let unit = c.args.geometry.now.min_io in
    let geo = c.args.geometry.now.in_range in
    let least = geo.min_io.1 in
    let most = geo.min_io.2 in
    let high = room_high unit in
    record {
      low = room_low unit (omega (arith, least));
      high = omega (arith, high, most);
      even = mod_through (room_of unit) unit 8 (room_whole unit) (min_io-mod (raw_of c.args.geometry.now) geo);
    }

pub returns-clause-whole : goal.returns-clause-whole
returns-clause-whole c = room_whole c.args.geometry.now.min_io

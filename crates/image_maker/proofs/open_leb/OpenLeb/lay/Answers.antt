use Rattle.std.proofs.Common.{arith}
use Rattle.ubifs_base.specs.RawOf.{raw_of}
use Rattle.image_maker.proofs.Room.{HasRoom}
use Rattle.image_maker.proofs.Ready.{ready_room}
use Rattle.image_maker.proofs.open_leb.OpenLeb.lay.Goals as goal

pub take_node-requires-clause-room : goal.take_node-requires-clause-room
take_node-requires-clause-room c =
    let room : HasRoom (raw_of c.args.geometry.now) c.args.self.now = ready_room (raw_of c.args.geometry.now) _ _ _ c.requires.ready in
    let lnum = room.lnum in
    omega (arith, lnum)

pub take_node-requires-clause-number : goal.take_node-requires-clause-number
take_node-requires-clause-number c =
    let room : HasRoom (raw_of c.args.geometry.now) c.args.self.now = ready_room (raw_of c.args.geometry.now) _ _ _ c.requires.ready in
    room.sqnum

pub returns-clause-laid : goal.returns-clause-laid
returns-clause-laid c =
    let taken = c.in_ok-take_node.ensures in
    record { laid = taken.laid; packed = taken.packed; some = λ h. taken.some; fits = taken.fits; geometry = taken.geometry }

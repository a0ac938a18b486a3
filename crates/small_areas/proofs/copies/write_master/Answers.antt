use Rattle.std.proofs.Common.{◌≡◌, ◌%◌, ℕ, sym, subst}
use Rattle.std.specs.Prelude.{OnOk}
use Rattle.ubi_volume.specs.Frame.{Works}
use Rattle.small_areas.specs.Copies.{IsOpen, AreCopied, IsMasterLeb, MasterUnderWay}
use Rattle.small_areas.proofs.copies.write_master.Goals as goal

pub write_copies-requires-clause-units : goal.write_copies-requires-clause-units
write_copies-requires-clause-units g c =
    let P : ℕ → Type 0 = λ unit. c.copy_room-room.result % unit ≡ 0 in
    subst P c.requires.geometry.min_io c.copy_room-room.ensures.whole

pub write_copies-requires-clause-first : goal.write_copies-requires-clause-first
write_copies-requires-clause-first g c =
    let P : ℕ → Type 0 = λ room. IsOpen (g.V.Volume.state c.args.volume.now) 1 room in
    subst P (sym c.copy_room-room.ensures.room) c.requires.first

pub write_copies-requires-clause-second : goal.write_copies-requires-clause-second
write_copies-requires-clause-second g c =
    let P : ℕ → Type 0 = λ room. IsOpen (g.V.Volume.state c.args.volume.now) 2 room in
    subst P (sym c.copy_room-room.ensures.room) c.requires.second

pub returns-clause-done : goal.returns-clause-done
returns-clause-done g c =
    let P : ℕ → Type 0 = λ room. OnOk c.write_copies.result (AreCopied (g.V.Volume.state c.args.volume.now) (g.V.Volume.state c.write_copies.new.volume) room c.args.sqnum.now c.args.master.now) in
    subst P c.copy_room-room.ensures.room c.write_copies.ensures.done

pub returns-clause-works : goal.returns-clause-works
returns-clause-works g c =
    let a = g.V.Volume.state c.args.volume.now in
    let P : ℕ → Type 0 = λ room. Works a (g.V.Volume.state c.write_copies.new.volume) IsMasterLeb (MasterUnderWay a room c.args.sqnum.now c.args.master.now) in
    subst P c.copy_room-room.ensures.room c.write_copies.ensures.works

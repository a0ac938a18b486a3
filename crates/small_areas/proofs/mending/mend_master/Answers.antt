use Rattle.std.proofs.Common.{◌≡◌, ◌%◌, ℕ, sym, subst}
use Rattle.std.specs.Prelude.{OnOk}
use Rattle.ubi_volume.specs.Frame.{Works}
use Rattle.small_areas.specs.Copies.{IsMasterLeb, IsMended, IsMendWritten, IsOpen, MendUnderWay}
use Rattle.small_areas.proofs.CopyRuns.{on_two}
use Rattle.small_areas.proofs.mending.mend_master.Goals as goal

pub mend_in-requires-clause-units : goal.mend_in-requires-clause-units
mend_in-requires-clause-units g c =
    let P : ℕ → Type 0 = λ unit. c.copy_room-room.result % unit ≡ 0 in
    subst P c.requires.geometry.min_io c.copy_room-room.ensures.whole

pub mend_in-requires-clause-first : goal.mend_in-requires-clause-first
mend_in-requires-clause-first g c =
    let P : ℕ → Type 0 = λ room. IsOpen (g.V.Volume.state c.args.volume.now) 1 room in
    subst P (sym c.copy_room-room.ensures.room) c.requires.first

pub mend_in-requires-clause-second : goal.mend_in-requires-clause-second
mend_in-requires-clause-second g c =
    let P : ℕ → Type 0 = λ room. IsOpen (g.V.Volume.state c.args.volume.now) 2 room in
    subst P (sym c.copy_room-room.ensures.room) c.requires.second

pub returns-clause-done : goal.returns-clause-done
returns-clause-done g c =
    let a = g.V.Volume.state c.args.volume.now in
    let b = g.V.Volume.state c.mend_in.new.volume in
    let M : ℕ → Type 0 = λ room. IsMended b room c.args.sqnum.now c.args.latest.now in
    let W : ℕ → Type 0 = λ room. IsMendWritten a b room c.args.sqnum.now c.args.latest.now in
    let P : ℕ → Type 0 = λ room. OnOk c.mend_in.result (M room × W room) in
    let room = c.copy_room-room.result in
    subst P c.copy_room-room.ensures.room (on_two c.mend_in.result (M room) (W room) (M room × W room) (λ done written. (done, written)) c.mend_in.ensures.done c.mend_in.ensures.written)

pub returns-clause-works : goal.returns-clause-works
returns-clause-works g c =
    let a = g.V.Volume.state c.args.volume.now in
    let P : ℕ → Type 0 = λ room. Works a (g.V.Volume.state c.mend_in.new.volume) IsMasterLeb (MendUnderWay a room c.args.sqnum.now c.args.latest.now) in
    subst P c.copy_room-room.ensures.room c.mend_in.ensures.works

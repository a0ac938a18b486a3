use Rattle.std.proofs.Common.{◌≡◌, ◌+◌, ℕ, List, ◌++◌, length, take, ap, sym, subst, ◌∙◌, arith}
use Rattle.std.proofs.lemmas.List.{take-append-drop}
use Rattle.ubi_volume.specs.Volume.{Torn, WorksOn}
use Rattle.write_buffer.specs.Buffer.{Buffered, IsAppended, Stands, whole_of}
use Rattle.write_buffer.proofs.Buffers.{whole_more}
use Rattle.write_buffer.proofs.Results.{on_ok}
use Rattle.write_buffer.proofs.Texts.{appended_then, call_stands, filled_appended, stands_then, torn_then, torn_wider}
use Rattle.write_buffer.proofs.buffer.Buffer.append_to.Goals as goal

pub returns-then-is_empty-clause-stands : goal.returns-then-is_empty-clause-stands
returns-then-is_empty-clause-stands g c =
    call_stands c.append_units.result (g.V.Volume.state c.args.volume.now) (g.V.Volume.state c.append_units.new.volume) c.args.self.now c.append_units.new.self c.args.lnum (whole_of c.args.self.now.unit (length c.args.bytes.now)) c.args.bytes.now
    c.append_units.ensures.shape c.requires.open_there c.append_units.ensures.done c.append_units.ensures.failed c.append_units.ensures.torn

pub returns-in_err-write_filled-clause-works : goal.returns-in_err-write_filled-clause-works
returns-in_err-write_filled-clause-works g c =
    let x = c.args.self.now in
    let rest = length c.split_at.result.1.now in
    let some = c.is_empty.ensures.is.some in
    let fills = c.room-room.ensures in
    let back = c.split_at.ensures.back_len in
    let all : length x.tail + length c.args.bytes.now ≡ x.unit + rest = omega (arith, fills, back) in
    let sum : x.unit + whole_of x.unit rest ≡ whole_of x.unit (length x.tail + length c.args.bytes.now) = sym (ap (whole_of x.unit) all ∙ whole_more x.unit rest some) in
    torn_wider (g.V.Volume.state c.args.volume.now) (g.V.Volume.state c.write_filled.new.volume) c.args.lnum x.place x.unit (whole_of x.unit rest) (whole_of x.unit (length x.tail + length c.args.bytes.now)) sum c.write_filled.ensures.works

pub append_units-requires-2-clause-open_there : goal.append_units-requires-2-clause-open_there
append_units-requires-2-clause-open_there g c =
    let fills = c.room-room.ensures in
    let front = c.split_at.ensures.front_len in
    let fits = c.requires.fits in
    let room = c.if-bytes-room.false in
    (filled_appended (g.V.Volume.state c.args.volume.now) (g.V.Volume.state c.write_filled.new.volume) c.args.self.now c.write_filled.new.self c.args.lnum c.split_at.result.0.now
    c.write_filled.ensures.shape c.requires.open_there (omega (arith, fills, front)) (omega (arith, fills, fits, room)) c.in_ok-write_filled.ensures.done).open_after

pub returns-clause-done : goal.returns-clause-done
returns-clause-done g c =
    let a = g.V.Volume.state c.args.volume.now in
    let b = g.V.Volume.state c.write_filled.new.volume in
    let e = g.V.Volume.state c.append_units-2.new.volume in
    let x = c.args.self.now in
    let y = c.write_filled.new.self in
    let z = c.append_units-2.new.self in
    let front : List ℕ = c.split_at.result.0.now in
    let rest : List ℕ = c.split_at.result.1.now in
    let fills = c.room-room.ensures in
    let front_len = c.split_at.ensures.front_len in
    let fits = c.requires.fits in
    let room = c.if-bytes-room.false in
    let both : front ++ rest ≡ c.args.bytes.now = ap (λ (bs : List ℕ). bs ++ rest) c.split_at.ensures.front ∙ ap (λ (bs : List ℕ). take c.room-room.result c.args.bytes.now ++ bs) c.split_at.ensures.back ∙ take-append-drop c.room-room.result c.args.bytes.now in
    let first = filled_appended a b x y c.args.lnum front c.write_filled.ensures.shape c.requires.open_there (omega (arith, fills, front_len)) (omega (arith, fills, fits, room)) c.in_ok-write_filled.ensures.done in
    let P : List ℕ → Type 0 = λ bs. IsAppended a e x z c.args.lnum bs in
    on_ok c.append_units-2.result (IsAppended b e y z c.args.lnum rest) (IsAppended a e x z c.args.lnum c.args.bytes.now) (λ h. subst P both (appended_then a b e x y z c.args.lnum front rest first h)) c.append_units-2.ensures.done

pub returns-clause-stands : goal.returns-clause-stands
returns-clause-stands g c =
    let a = g.V.Volume.state c.args.volume.now in
    let b = g.V.Volume.state c.write_filled.new.volume in
    let e = g.V.Volume.state c.append_units-2.new.volume in
    let x = c.args.self.now in
    let y = c.write_filled.new.self in
    let z = c.append_units-2.new.self in
    let front : List ℕ = c.split_at.result.0.now in
    let rest : List ℕ = c.split_at.result.1.now in
    let fills = c.room-room.ensures in
    let front_len = c.split_at.ensures.front_len in
    let fits = c.requires.fits in
    let room = c.if-bytes-room.false in
    let both : front ++ rest ≡ c.args.bytes.now = ap (λ (bs : List ℕ). bs ++ rest) c.split_at.ensures.front ∙ ap (λ (bs : List ℕ). take c.room-room.result c.args.bytes.now ++ bs) c.split_at.ensures.back ∙ take-append-drop c.room-room.result c.args.bytes.now in
    let first = filled_appended a b x y c.args.lnum front c.write_filled.ensures.shape c.requires.open_there (omega (arith, fills, front_len)) (omega (arith, fills, fits, room)) c.in_ok-write_filled.ensures.done in
    let second = call_stands c.append_units-2.result b e y z c.args.lnum (whole_of y.unit (length rest)) rest c.append_units-2.ensures.shape first.open_after c.append_units-2.ensures.done c.append_units-2.ensures.failed c.append_units-2.ensures.torn in
    let is = c.in_ok-write_filled.ensures.done.is in
    let P : List ℕ → Type 0 = λ bs. Stands a e x z c.args.lnum bs in
    subst P both (stands_then a b e x y z c.args.lnum front rest (ap (λ (w : Buffered). w.leb) is) (ap (λ (w : Buffered). w.unit) is) first second)

pub returns-clause-works : goal.returns-clause-works
returns-clause-works g c =
    let a = g.V.Volume.state c.args.volume.now in
    let b = g.V.Volume.state c.write_filled.new.volume in
    let e = g.V.Volume.state c.append_units-2.new.volume in
    let x = c.args.self.now in
    let rest = length c.split_at.result.1.now in
    let some = c.is_empty.ensures.is.some in
    let fills = c.room-room.ensures in
    let back = c.split_at.ensures.back_len in
    let all : length x.tail + length c.args.bytes.now ≡ x.unit + rest = omega (arith, fills, back) in
    let sum : x.unit + whole_of x.unit rest ≡ whole_of x.unit (length x.tail + length c.args.bytes.now) = sym (ap (whole_of x.unit) all ∙ whole_more x.unit rest some) in
    let P : Buffered → Type 0 = λ w. WorksOn b e c.args.lnum (Torn w.place (whole_of w.unit rest) (b.holds c.args.lnum)) in
    torn_then a b e c.args.lnum x.place x.unit (whole_of x.unit rest) (whole_of x.unit (length x.tail + length c.args.bytes.now)) sum c.write_filled.ensures.torn c.write_filled.ensures.works
    (subst P c.in_ok-write_filled.ensures.done.is c.append_units-2.ensures.works)

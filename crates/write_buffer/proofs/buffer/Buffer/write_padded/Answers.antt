use Rattle.std.proofs.Common.{◌≡◌, ◌+◌, ◌-◌, ◌%◌, ◌<◌, ℕ, [], length, take, ap, sym, subst, arith}
use Rattle.std.proofs.Math.Nat.{mod_self}
use Rattle.ubifs_base.specs.Gap.{gap_of}
use Rattle.write_buffer.specs.Buffer.{Buffered, IsOpenFor}
use Rattle.write_buffer.proofs.Buffers.{moved, padded_len, unit_fits}
use Rattle.write_buffer.proofs.buffer.Buffer.write_padded.Goals as goal

pub invariant_of-self-2 : goal.invariant_of-self-2
invariant_of-self-2 g c =
    let a = g.V.Volume.state c.args.volume.now in
    let x : Buffered = record { unit = length c.self.inside.waiting.items; leb = c.self.inside.leb; place = c.self.inside.place; tail = take c.self.inside.count c.self.inside.waiting.items } in
    let y : Buffered = record { unit = length c.pad_behind.new.unit.items; leb = c.self.inside.leb; place = c.self.inside.place + c.len.result; tail = [] } in
    let P : Buffered → Type 0 = λ z. IsOpenFor a z c.args.lnum in
    let Q : Buffered → Type 0 = λ z. 0 < length z.tail in
    let W : ℕ → Type 0 = λ u. a.leb_size % u ≡ 0 in
    let open_before = subst P (sym c.self.view_is) c.requires.open_there in
    let waits = subst Q (sym c.self.view_is) c.requires.some in
    let fits = open_before.fits in
    let is = c.self.invariant in
    let some = is.1.some in
    let size = c.leb_size-size.ensures in
    let small = c.leb_size-size.type_inv in
    let len = c.pad_behind.ensures.len in
    let n = c.len.ensures in
    let same : c.len.result ≡ length c.self.inside.waiting.items = omega (arith, n, len) in
    let room = unit_fits (length c.self.inside.waiting.items) c.self.inside.place a.leb_size some is.1.whole (subst W (sym open_before.unit) open_before.units) (omega (arith, waits, fits)) in
    (omega (arith, some, len), moved x y (length c.self.inside.waiting.items) is.1 len (ap (λ (k : ℕ). c.self.inside.place + k) same) (mod_self (length c.self.inside.waiting.items)) some (omega (arith, room, size, small)))

pub returns-clause-full : goal.returns-clause-full
returns-clause-full g c =
    let P : Buffered → Type 0 = λ z. length z.tail + length (gap_of (z.unit - length z.tail)) ≡ z.unit in
    subst P c.self.view_is (padded_len c.self.inside.count c.self.inside.waiting.items c.pad_behind.new.unit.items c.self.invariant.0 c.pad_behind.ensures.padded c.pad_behind.ensures.len)

pub returns-in_err-write_units-clause-full : goal.returns-in_err-write_units-clause-full
returns-in_err-write_units-clause-full g c =
    let P : Buffered → Type 0 = λ z. length z.tail + length (gap_of (z.unit - length z.tail)) ≡ z.unit in
    subst P c.self.view_is (padded_len c.self.inside.count c.self.inside.waiting.items c.pad_behind.new.unit.items c.self.invariant.0 c.pad_behind.ensures.padded c.pad_behind.ensures.len)

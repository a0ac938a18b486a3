use Rattle.std.proofs.Common.{◌≡◌, ◌+◌, ◌≤◌, ℕ, [], ◌++◌, length, take, refl, ap, sym, subst, ◌∙◌, arith}
use Rattle.std.proofs.Math.Nat.{mod_self}
use Rattle.write_buffer.specs.Buffer.{Buffered}
use Rattle.write_buffer.specs.Units.{IsFilled}
use Rattle.write_buffer.proofs.Buffers.{filled_is, filled_items, moved}
use Rattle.write_buffer.proofs.buffer.Buffer.write_filled.Goals as goal

pub invariant_of-self-2 : goal.invariant_of-self-2
invariant_of-self-2 g c =
    let x : Buffered = record { unit = length c.self.inside.waiting.items; leb = c.self.inside.leb; place = c.self.inside.place; tail = take c.self.inside.count c.self.inside.waiting.items } in
    let y : Buffered = record { unit = length c.put_behind.new.unit.items; leb = c.self.inside.leb; place = c.self.inside.place + c.len.result; tail = [] } in
    let P : Buffered → Type 0 = λ x. x.place + x.unit ≤ (g.V.Volume.state c.args.volume.now).leb_size in
    let fits = subst P (sym c.self.view_is) c.requires.fits in
    let is = c.self.invariant in
    let some = is.1.some in
    let size = c.leb_size-size.ensures in
    let small = c.leb_size-size.type_inv in
    let len = c.put_behind.ensures.len in
    let n = c.len.ensures in
    let same : c.len.result ≡ length c.self.inside.waiting.items = omega (arith, n, len) in
    (omega (arith, some, len), moved x y (length c.self.inside.waiting.items) is.1 len (ap (λ (k : ℕ). c.self.inside.place + k) same) (mod_self (length c.self.inside.waiting.items)) some (omega (arith, fits, size, small)))

pub returns-clause-done : goal.returns-clause-done
returns-clause-done g c =
    let a = g.V.Volume.state c.args.volume.now in
    let b = g.V.Volume.state c.write_units.new.volume in
    let x : Buffered = record { unit = length c.self.inside.waiting.items; leb = c.self.inside.leb; place = c.self.inside.place; tail = take c.self.inside.count c.self.inside.waiting.items } in
    let y : Buffered = record { unit = length c.put_behind.new.unit.items; leb = c.self.inside.leb; place = c.self.inside.place + c.len.result; tail = [] } in
    let P : Buffered → Type 0 = λ z. IsFilled a b z y c.args.lnum c.args.front.now in
    let Q : Buffered → Type 0 = λ z. length z.tail + length c.args.front.now ≡ z.unit in
    let full = subst Q (sym c.self.view_is) c.requires.fills in
    let len = c.put_behind.ensures.len in
    let n = c.len.ensures in
    let same : c.len.result ≡ length c.self.inside.waiting.items = omega (arith, n, len) in
    let all : c.deref.result.now ≡ take c.self.inside.count c.self.inside.waiting.items ++ c.args.front.now =
    c.deref.ensures.value ∙ filled_items c.self.inside.count c.self.inside.waiting.items c.put_behind.new.unit.items c.args.front.now c.self.invariant.0 len c.put_behind.ensures.front full in
    subst P c.self.view_is (filled_is a b x y c.args.lnum c.args.front.now c.deref.result.now len refl (ap (λ (k : ℕ). c.self.inside.place + k) same) refl all c.in_ok-write_units.ensures.done)

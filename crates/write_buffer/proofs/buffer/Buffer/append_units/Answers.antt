use Rattle.std.proofs.Common.{◌≡◌, ◌+◌, ◌/◌, ◌%◌, ◌≤◌, ℕ, length, refl, ap, sym, subst, ◌∙◌, arith}
use Rattle.std.proofs.Math.Nat.{mul-mod_left}
use Rattle.write_buffer.specs.Buffer.{Buffered, IsOpenFor}
use Rattle.write_buffer.proofs.Buffers.{moved}
use Rattle.write_buffer.proofs.buffer.Buffer.append_units.Goals as goal

pub write_units-requires-clause-whole : goal.write_units-requires-clause-whole
write_units-requires-clause-whole g c =
    let P : Buffered → Type 0 = λ x. IsOpenFor (g.V.Volume.state c.args.volume.now) x c.args.lnum in
    let open_before = subst P (sym c.self.view_is) c.requires.open_there in
    let unit = open_before.unit in
    let len = c.len-unit.ensures in
    let same : c.len-unit.result ≡ (g.V.Volume.state c.args.volume.now).min_io = omega (arith, unit, len) in
    let Q : ℕ → Type 0 = λ m. length c.split_at.result.0.now % m ≡ 0 in
    subst Q same (ap (λ (n : ℕ). n % c.len-unit.result) c.split_at.ensures.front_len ∙ mul-mod_left (length c.args.bytes.now / c.len-unit.result) c.len-unit.result)

pub invariant_of-self : goal.invariant_of-self
invariant_of-self g c =
    let P : Buffered → Type 0 = λ x. IsOpenFor (g.V.Volume.state c.args.volume.now) x c.args.lnum in
    let Q : Buffered → Type 0 = λ x. length x.tail ≡ 0 in
    let R : Buffered → Type 0 = λ x. x.place + length c.args.bytes.now ≤ (g.V.Volume.state c.args.volume.now).leb_size in
    let open_before = subst P (sym c.self.view_is) c.requires.open_there in
    let none = subst Q (sym c.self.view_is) (ap length c.requires.none) in
    let fits = subst R (sym c.self.view_is) c.requires.fits in
    let is = c.self.invariant in
    let size = c.leb_size-size.ensures in
    let small = c.leb_size-size.type_inv in
    let len = c.len-unit.ensures in
    let part = c.split_at.ensures.back_len in
    let n = length c.split_at.result.0.now in
    let W : ℕ → Type 0 = λ m. n % m ≡ 0 in
    let whole : n % c.len-unit.result ≡ 0 = ap (λ (k : ℕ). k % c.len-unit.result) c.split_at.ensures.front_len ∙ mul-mod_left (length c.args.bytes.now / c.len-unit.result) c.len-unit.result in
    let same : c.len-unit.result ≡ length c.self.inside.waiting.items = omega (arith, len) in
    let inside = is.0 in
    let less = is.1.less in
    (inside, moved _ _ n is.1 refl refl (subst W same whole) less (omega (arith, none, fits, size, small, part)))

use Rattle.std.proofs.Common.{ℕ, length, arith, ap, sym, ◌∙◌, subst}
use Rattle.ubi_volume.specs.Volume.{AreUnits}
use Rattle.image_maker.proofs.Units.{round_up-le, round_up-units}
use Rattle.image_maker.proofs.open_leb.OpenLeb.close.Goals as goal

pub change-requires-clause-range : goal.change-requires-clause-range
change-requires-clause-range c =
    let geo = c.args.geometry.now.in_range in
    let unit = geo.min_io.1 in
    let le = round_up-le c.args.geometry.now.min_io (length c.args.self.now.bytes.items) c.args.geometry.now.leb_size (omega (arith, unit)) geo.leb_size.2 c.requires.fits in
    let long = ap length c.deref.ensures.value in
    let len = c.in_ok-fill_unit.ensures.len in
    let size = c.requires.geometry.leb_size in
    omega (arith, le, long, len, size)

pub change-requires-clause-units : goal.change-requires-clause-units
change-requires-clause-units c =
    let geo = c.args.geometry.now.in_range in
    let unit = geo.min_io.1 in
    let units = round_up-units c.args.geometry.now.min_io (length c.args.self.now.bytes.items) (omega (arith, unit)) c.requires.some in
    let U : ℕ → Type 0 = λ u. AreUnits u 0 (length c.deref.result.now) in
    let N : ℕ → Type 0 = λ n. AreUnits c.args.geometry.now.min_io 0 n in
    subst U (sym c.requires.geometry.min_io) (subst N (sym (ap length c.deref.ensures.value ∙ c.in_ok-fill_unit.ensures.len)) units)

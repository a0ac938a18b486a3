use Rattle.std.proofs.Common.{Ok, rules, ◌+◌, ℕ, length, arith, ap, sym, ◌∙◌, subst, ◌%◌, ◌≡◌}
use Rattle.ubi_volume.specs.Volume.{AreUnits}
use Rattle.laid_index.specs.Answered.{IsLayingAnswered}
use Rattle.laid_index.specs.Opened.{open_lnum}
use Rattle.laid_index.proofs.open_leb.OpenLeb.close.Goals as goal

pub write_leb-requires-clause-units : goal.write_leb-requires-clause-units
write_leb-requires-clause-units g c =
    let unit = c.args.geometry.now.min_io in
    let done = c.in_ok-fill_unit.ensures in
    let some = c.requires.some in
    let U : ℕ → Type 0 = λ u. AreUnits u 0 (length c.deref.result.now) in
    let N : ℕ → Type 0 = λ n. AreUnits unit 0 n in
    subst U c.requires.geometry.min_io (subst N (sym (ap length c.deref.ensures.value ∙ done.len)) (record { some = let m = done.more in omega (arith, some, m); whole = done.whole; starts = zero_mod unit }))
  where
    zero_mod : (m : ℕ) → 0 % m ≡ 0
    zero_mod m = omega arith

pub write_leb-requires-clause-range : goal.write_leb-requires-clause-range
write_leb-requires-clause-range g c =
    let done = c.in_ok-fill_unit.ensures in
    let long = ap length c.deref.ensures.value ∙ done.len in
    let fits = done.fits in
    let size = c.requires.geometry.leb_size in
    omega (arith, long, fits, size)

pub returns-clause-answer : goal.returns-clause-answer
returns-clause-answer g c =
    let P : ℕ → Type 0 = λ n. IsLayingAnswered n (n + 1) (g.V.Volume.state c.args.volume.now) (g.V.Volume.state c.write_leb.new.volume) (Ok c.in_ok-write_leb.field-0) in
    let e : c.args.self.now.first + c.len.result ≡ open_lnum c.args.self.now = search rules in
    subst P e c.in_ok-write_leb.ensures.answer

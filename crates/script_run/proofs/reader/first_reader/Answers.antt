use Rattle.std.proofs.Common.{◌≡◌, ap, arith, length, sym, subst}
use Rattle.plain_backing.specs.declared.backing.PlainBacking.{PlainBacking}
use Rattle.plain_backing.specs.PlainBacking.{backing_state_of}
use Rattle.script_run.specs.Readers.{IsBackingClosed}
use Rattle.script_run.proofs.reader.first_reader.Goals as goal

pub returns-clause-closed : goal.returns-clause-closed
returns-clause-closed c =
    let made = c.in_ok-backing.ensures.state in
    let kept = c.in_ok-fs.fs.kept in
    let weight : (backing_state_of c.in_ok-backing.backing).space.weight ≡ 0 = ap (λ s. s.space.weight) made in
    let none : length kept.pages.dirty ≡ 0 = ap (λ dirty. length dirty) c.in_ok-fs.ensures.bare.pages in
    let P : PlainBacking → Type 0 = λ backing. IsBackingClosed c.args.cause backing kept in
    subst P (sym c.in_ok-fs.ensures.backing) (record { mode = ap (λ s. s.mode) made; light = omega (arith, weight, none) })

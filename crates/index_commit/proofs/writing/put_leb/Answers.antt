use Rattle.std.proofs.Common.{◌≡◌, ◌∷◌, ◌%◌, ℕ, [], take, ap, sym, ◌∙◌, subst, arith, inl, inr, refl, length-take-le}
use Rattle.std.proofs.lemmas.Grind
use native.Mathlib.Omega
use Rattle.ubifs_base.specs.RawOf.{raw_of}
use Rattle.index_commit.specs.Written.{IsLebPut}
use Rattle.index_commit.proofs.Lebs.{leb_put, none_put, none_works, one_works}
use Rattle.index_commit.proofs.HeldLebs.{none_left, put_left}
use Rattle.index_commit.proofs.writing.put_leb.Goals as goal

pub returns-then-used-eq0-clause-put : goal.returns-then-used-eq0-clause-put
returns-then-used-eq0-clause-put g c =
    let s = g.V.Volume.state c.args.volume.now in
    let P : ℕ → Type 0 = λ n. IsLebPut s s c.args.lnum (take n c.args.leb.now) n 0 in
    subst P (sym c.if-used-eq0.true) (none_put s c.args.lnum 0 c.args.leb.now)

pub returns-clause-put : goal.returns-clause-put
returns-clause-put g c =
    let a = g.V.Volume.state c.args.volume.now in
    let b = g.V.Volume.state c.change.new.self in
    let end = c.in_units-end.result in
    let leb = c.fill_unit.new.leb in
    let fits = c.in_units-end.ensures.fits in
    let size = c.fill_unit.ensures.size in
    let whole = c.requires.whole in
    let unit : b.min_io ≡ c.args.geometry.now.min_io = c.change.ensures.shape.min_io ∙ sym c.requires.geometry.min_io in
    let busy = c.if-used-eq0.false in
    leb_put a b c.args.lnum c.args.used end _ (take c.args.used c.args.leb.now) (take end leb) (omega (arith, busy)) c.fill_unit.ensures.front c.in_ok-change.ensures.done c.change.ensures.works
    (length-take-le end leb (omega (arith, fits, size, whole))) (ap (λ (n : ℕ). end % n) unit ∙ c.in_units-end.ensures.whole)

pub returns-clause-works : goal.returns-clause-works
returns-clause-works g c = one_works (g.V.Volume.state c.args.volume.now) (g.V.Volume.state c.change.new.self) c.args.lnum _ c.change.ensures.works

pub returns-then-used-eq0-clause-left : goal.returns-then-used-eq0-clause-left
returns-then-used-eq0-clause-left g c = none_left (raw_of c.args.geometry.now) (g.V.Volume.state c.args.volume.now) c.args.lnum c.args.used (take c.args.used c.args.leb.now) c.if-used-eq0.true

pub returns-in_err-change-clause-left : goal.returns-in_err-change-clause-left
returns-in_err-change-clause-left g c =
    let busy = c.if-used-eq0.false in
    put_left (raw_of c.args.geometry.now) (g.V.Volume.state c.args.volume.now) (g.V.Volume.state c.change.new.self) c.args.lnum c.args.used c.in_units-end.result (take c.args.used c.args.leb.now)
    (take c.in_units-end.result c.fill_unit.new.leb) (omega (arith, busy)) c.in_units-end.ensures.units c.fill_unit.ensures.front c.change.ensures.works

pub returns-clause-left : goal.returns-clause-left
returns-clause-left g c =
    let busy = c.if-used-eq0.false in
    put_left (raw_of c.args.geometry.now) (g.V.Volume.state c.args.volume.now) (g.V.Volume.state c.change.new.self) c.args.lnum c.args.used c.in_units-end.result (take c.args.used c.args.leb.now)
    (take c.in_units-end.result c.fill_unit.new.leb) (omega (arith, busy)) c.in_units-end.ensures.units c.fill_unit.ensures.front c.change.ensures.works

pub returns-then-used-eq0-clause-units : goal.returns-then-used-eq0-clause-units
returns-then-used-eq0-clause-units g c = grind (Omega.arith, Grind.common_steps) steps 2000000

pub returns-then-used-eq0-clause-works : goal.returns-then-used-eq0-clause-works
returns-then-used-eq0-clause-works g c = none_works (g.V.Volume.state c.args.volume.now) (c.args.lnum ∷ [])

pub returns-then-used-eq0-clause-answer : goal.returns-then-used-eq0-clause-answer
returns-then-used-eq0-clause-answer g c = record { shape = record { leb_size = refl; min_io = refl; leb_cnt = refl }; cause = omega arith; sure = λ s. inr (s, (refl, refl)) }

pub fill_unit-requires-clause-room : goal.fill_unit-requires-clause-room
fill_unit-requires-clause-room g c = grind (Omega.arith, Grind.common_steps) steps 2000000

pub fill_unit-requires-clause-size : goal.fill_unit-requires-clause-size
fill_unit-requires-clause-size g c = grind (Omega.arith, Grind.common_steps) steps 2000000

pub change-requires-clause-range : goal.change-requires-clause-range
change-requires-clause-range g c = grind (Omega.arith, Grind.common_steps) steps 2000000

pub change-requires-clause-units : goal.change-requires-clause-units
change-requires-clause-units g c = grind (Omega.arith, Grind.common_steps) steps 2000000

pub returns-in_err-change-clause-works : goal.returns-in_err-change-clause-works
returns-in_err-change-clause-works g c = one_works _ _ _ _ c.change.ensures.works

pub returns-in_err-change-clause-answer : goal.returns-in_err-change-clause-answer
returns-in_err-change-clause-answer g c = grind (Omega.arith, Grind.common_steps) steps 2000000

pub returns-clause-answer : goal.returns-clause-answer
returns-clause-answer g c = record {
  shape = c.change.ensures.shape;
  cause = c.in_ok-change.ensures.cause;
  sure = λ s. elim (c.change.ensures.sure s) [ inl gone ↦ inl gone | inr fine ↦ inr (fine.0, (fine.1.0, refl)) ];
}

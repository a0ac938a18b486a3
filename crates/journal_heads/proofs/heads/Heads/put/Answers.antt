use Rattle.std.proofs.Common.{◌≡◌, ◌⊎◌, ℕ, Some, [], length, sym, subst}
use Rattle.std.specs.Prelude.{OnErr, IfOk}
use Rattle.ubi_volume.specs.Volume.{WorksOn}
use Rattle.write_buffer.specs.Buffer.{lnum_of}
use Rattle.journal_heads.specs.Heads.{AddsTo, ArePut, HasRoom, PutUnderWay, buffer_of, place_of}
use Rattle.journal_heads.specs.declared.place.Place.{Place}
use Rattle.journal_heads.proofs.OpenHeads.{if_ok_both}
use Rattle.journal_heads.proofs.heads.Heads.put.Goals as goal

pub put_on-requires-clause-fits : goal.put_on-requires-clause-fits
put_on-requires-clause-fits g c = let P : ℕ → Type 0 = λ n. HasRoom c.args.self.now n (length c.args.nodes.now) in subst P (sym c.index_of.ensures.number) c.requires.fits

pub returns-clause-done : goal.returns-clause-done
returns-clause-done g c =
    let x = c.args.self.now in
    let a = g.V.Volume.state c.args.volume.now in
    let b = g.V.Volume.state c.put_on.new.volume in
    let P : ℕ → Type 0 = λ n. IfOk c.put_on.result (λ (place : Place). ArePut a b x c.put_on.new.self n c.args.nodes.now × (place_of x n ≡ Some place)) in
    subst P c.index_of.ensures.number
    (if_ok_both c.put_on.result (ArePut a b x c.put_on.new.self c.index_of.result c.args.nodes.now) (λ (place : Place). place_of x c.index_of.result ≡ Some place) c.put_on.ensures.done c.put_on.ensures.place)

pub returns-clause-adds : goal.returns-clause-adds
returns-clause-adds g c =
    let P : ℕ → Type 0 = λ n. AddsTo (g.V.Volume.state c.args.volume.now) (g.V.Volume.state c.put_on.new.volume) c.args.self.now c.put_on.new.self n c.args.nodes.now in
    subst P c.index_of.ensures.number c.put_on.ensures.adds

pub returns-clause-failed : goal.returns-clause-failed
returns-clause-failed g c =
    let x = c.args.self.now in
    let y = c.put_on.new.self in
    let P : ℕ → Type 0 = λ n. OnErr c.put_on.result (((buffer_of y n).tail ≡ (buffer_of x n).tail) ⊎ ((buffer_of y n).tail ≡ [])) in
    subst P c.index_of.ensures.number c.put_on.ensures.failed

pub returns-clause-works : goal.returns-clause-works
returns-clause-works g c =
    let a = g.V.Volume.state c.args.volume.now in
    let x = c.args.self.now in
    let P : ℕ → Type 0 = λ n. WorksOn a (g.V.Volume.state c.put_on.new.volume) (lnum_of (buffer_of x n)) (PutUnderWay a (buffer_of x n) (length c.args.nodes.now)) in
    subst P c.index_of.ensures.number c.put_on.ensures.works

use Rattle.std.proofs.Common.{◌≡◌, ◌-◌, ◌%◌, ◌<◌, ℕ, [], List, length, ap, sym, subst, ◌∙◌, arith}
use Rattle.std.proofs.lemmas.Bool.{false≢true}
use Rattle.ubifs_base.specs.Gap.{gap_of}
use Rattle.write_buffer.specs.Buffer.{Buffered, IsAppended, IsSynced, padding_of}
use Rattle.write_buffer.specs.Units.{IsFilled}
use Rattle.write_buffer.proofs.Buffers.{unit_fits}
use Rattle.write_buffer.proofs.Results.{on_ok}
use Rattle.write_buffer.proofs.Texts.{appended_synced, call_stands, filled_appended, none_synced, padding_some, some_waits}
use Rattle.write_buffer.proofs.buffer.Buffer.sync_to.Goals as goal

pub returns-then-is_empty-clause-done : goal.returns-then-is_empty-clause-done
returns-then-is_empty-clause-done g c =
    none_synced (g.V.Volume.state c.args.volume.now) c.args.self.now c.args.lnum c.requires (c.is_empty.ensures.none.0 c.if-is_empty.true)
    (g.met.V.Volume.leb_len c.args.volume.now c.args.lnum c.requires.inside) (g.met.V.Volume.blank c.args.volume.now c.args.lnum c.requires.inside)

pub returns-clause-done : goal.returns-clause-done
returns-clause-done g c =
    let a = g.V.Volume.state c.args.volume.now in
    let b = g.V.Volume.state c.write_padded.new.volume in
    let x = c.args.self.now in
    let y = c.write_padded.new.self in
    let some : x.tail ≡ [] → ⊥ = λ none. false≢true (sym c.if-is_empty.false ∙ c.is_empty.ensures.none.1 none) in
    let waits = some_waits x.tail some in
    let is = c.is_empty.ensures.is in
    let fits = c.requires.fits in
    let W : ℕ → Type 0 = λ u. a.leb_size % u ≡ 0 in
    let room = unit_fits x.unit x.place a.leb_size is.some is.whole (subst W (sym c.requires.unit) c.requires.units) (omega (arith, waits, fits)) in
    let P : List ℕ → Type 0 = λ bs. IsAppended a b x y c.args.lnum bs in
    let padded : IsFilled a b x y c.args.lnum (gap_of (x.unit - length x.tail)) → IsAppended a b x y c.args.lnum (padding_of x.unit x.tail) =
    λ filled. subst P (sym (padding_some x.unit x.tail some)) (filled_appended a b x y c.args.lnum (gap_of (x.unit - length x.tail)) c.write_padded.ensures.shape c.requires c.write_padded.ensures.full room filled) in
    let count = c.write_padded.ensures.shape.leb_cnt in
    let before = c.requires.inside in
    let inside : c.args.lnum < b.leb_cnt = omega (arith, count, before) in
    on_ok c.write_padded.result (IsFilled a b x y c.args.lnum (gap_of (x.unit - length x.tail))) (IsSynced a b x y c.args.lnum)
    (λ filled. appended_synced a b x y c.args.lnum (padded filled) (ap (λ (w : Buffered). w.tail) filled.is)
    (g.met.V.Volume.leb_len c.write_padded.new.volume c.args.lnum inside) (g.met.V.Volume.blank c.write_padded.new.volume c.args.lnum inside)) c.write_padded.ensures.done

pub returns-clause-stands : goal.returns-clause-stands
returns-clause-stands g c =
    let a = g.V.Volume.state c.args.volume.now in
    let b = g.V.Volume.state c.write_padded.new.volume in
    let x = c.args.self.now in
    let y = c.write_padded.new.self in
    let some : x.tail ≡ [] → ⊥ = λ none. false≢true (sym c.if-is_empty.false ∙ c.is_empty.ensures.none.1 none) in
    let waits = some_waits x.tail some in
    let is = c.is_empty.ensures.is in
    let fits = c.requires.fits in
    let W : ℕ → Type 0 = λ u. a.leb_size % u ≡ 0 in
    let room = unit_fits x.unit x.place a.leb_size is.some is.whole (subst W (sym c.requires.unit) c.requires.units) (omega (arith, waits, fits)) in
    let P : List ℕ → Type 0 = λ bs. IsAppended a b x y c.args.lnum bs in
    let padded : IsFilled a b x y c.args.lnum (gap_of (x.unit - length x.tail)) → IsAppended a b x y c.args.lnum (padding_of x.unit x.tail) =
    λ filled. subst P (sym (padding_some x.unit x.tail some)) (filled_appended a b x y c.args.lnum (gap_of (x.unit - length x.tail)) c.write_padded.ensures.shape c.requires c.write_padded.ensures.full room filled) in
    call_stands c.write_padded.result a b x y c.args.lnum x.unit (padding_of x.unit x.tail) c.write_padded.ensures.shape c.requires
    (on_ok c.write_padded.result (IsFilled a b x y c.args.lnum (gap_of (x.unit - length x.tail))) (IsAppended a b x y c.args.lnum (padding_of x.unit x.tail)) padded c.write_padded.ensures.done)
    c.write_padded.ensures.failed c.write_padded.ensures.torn

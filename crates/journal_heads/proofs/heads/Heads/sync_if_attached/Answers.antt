use Rattle.std.proofs.Common.{◌≡◌, ℕ, Option, Some, List, ap, sym, subst, ◌∙◌}
use Rattle.ubi_volume.specs.Volume.{Torn}
use Rattle.write_buffer.specs.Buffer.{IsSynced, lnum_of, number_of}
use Rattle.journal_heads.specs.Heads.{IsOn, IsSyncedHead, buffer_of, head_padding}
use Rattle.journal_heads.proofs.OpenHeads.{adds_none, adds_on, on_ok, open_after}
use Rattle.journal_heads.proofs.Syncing.{syncs_none, syncs_on}
use Rattle.journal_heads.proofs.heads.Heads.sync_if_attached.Goals as goal

pub sync_on-requires-clause-open_there : goal.sync_on-requires-clause-open_there
sync_on-requires-clause-open_there g c =
    let x = c.args.self.now in
    let some : (buffer_of x c.args.head).leb ≡ Some c.in-Some.field-0 = sym c.leb.ensures ∙ c.in-Some.is in
    c.requires.open_there.each c.args.head (lnum_of (buffer_of x c.args.head)) (some ∙ ap (λ (o : Option ℕ). Some (number_of o)) (sym some))

pub returns-in-Some-clause-adds : goal.returns-in-Some-clause-adds
returns-in-Some-clause-adds g c =
    let x = c.args.self.now in
    let head = c.args.head in
    let lnum = lnum_of (buffer_of x head) in
    let some : (buffer_of x head).leb ≡ Some c.in-Some.field-0 = sym c.leb.ensures ∙ c.in-Some.is in
    let on : IsOn x head lnum = some ∙ ap (λ (o : Option ℕ). Some (number_of o)) (sym some) in
    adds_on (g.V.Volume.state c.args.volume.now) (g.V.Volume.state c.sync_on.new.volume) x c.sync_on.new.self head lnum (head_padding x head) on c.sync_on.ensures.stands c.sync_on.ensures.buffers c.sync_on.ensures.size
    c.sync_on.ensures.shape

pub returns-in-Some-clause-works : goal.returns-in-Some-clause-works
returns-in-Some-clause-works g c =
    let x = c.args.self.now in
    let head = c.args.head in
    let lnum = lnum_of (buffer_of x head) in
    let some : (buffer_of x head).leb ≡ Some c.in-Some.field-0 = sym c.leb.ensures ∙ c.in-Some.is in
    let on : IsOn x head lnum = some ∙ ap (λ (o : Option ℕ). Some (number_of o)) (sym some) in
    syncs_on (g.V.Volume.state c.args.volume.now) (g.V.Volume.state c.sync_on.new.volume) (buffer_of x head) lnum on c.sync_on.ensures.works

pub returns-in-None-clause-adds : goal.returns-in-None-clause-adds
returns-in-None-clause-adds g c = adds_none (g.V.Volume.state c.args.volume.now) c.args.self.now c.args.head (head_padding c.args.self.now c.args.head) (sym c.leb.ensures ∙ c.in-None.is)

pub returns-in-None-clause-works : goal.returns-in-None-clause-works
returns-in-None-clause-works g c = syncs_none (g.V.Volume.state c.args.volume.now) (buffer_of c.args.self.now c.args.head) (sym c.leb.ensures ∙ c.in-None.is)

pub returns-in-Some-clause-done : goal.returns-in-Some-clause-done
returns-in-Some-clause-done g c =
    let a = g.V.Volume.state c.args.volume.now in
    let b = g.V.Volume.state c.sync_on.new.volume in
    let x = c.args.self.now in
    let y = c.sync_on.new.self in
    let head = c.args.head in
    let lnum = lnum_of (buffer_of x head) in
    let some : (buffer_of x head).leb ≡ Some c.in-Some.field-0 = sym c.leb.ensures ∙ c.in-Some.is in
    let on : IsOn x head lnum = some ∙ ap (λ (o : Option ℕ). Some (number_of o)) (sym some) in
    let D : List ℕ → Type 0 = Torn (buffer_of x head).place (buffer_of x head).unit (a.holds lnum) in
    on_ok c.sync_on.result (IsSynced a b (buffer_of x head) (buffer_of y head) lnum) (IsSyncedHead a b x y head)
    (λ done. record {
      none = done.none;
      synced = λ l on_l.
          let P : ℕ → Type 0 = λ n. IsSynced a b (buffer_of x head) (buffer_of y head) n in
          let same : lnum ≡ l = ap number_of on_l in
          subst P same done;
      open_after = open_after a b x y head lnum D c.requires.open_there on c.sync_on.ensures.works c.sync_on.ensures.shape c.sync_on.ensures.buffers c.sync_on.ensures.size done.open_after;
    }) c.sync_on.ensures.done

use Rattle.std.proofs.Common.{◌≡◌, ℕ, subst}
use Rattle.std.specs.Prelude.{OnErr, OnOk}
use Rattle.ubi_volume.specs.Frame.{Works}
use Rattle.journal_heads.specs.Heads.{AddsTo, IsHeadLeft, IsOn, IsSyncedHead, buffer_of, head_padding}
use Rattle.journal_heads.proofs.heads.Heads.sync.Goals as goal

pub returns-clause-done : goal.returns-clause-done
returns-clause-done g c =
    let P : ℕ → Type 0 = λ n. OnOk c.sync_if_attached.result (IsSyncedHead (g.V.Volume.state c.args.volume.now) (g.V.Volume.state c.sync_if_attached.new.volume) c.args.self.now c.sync_if_attached.new.self n) in
    subst P c.index_of.ensures.number c.sync_if_attached.ensures.done

pub returns-clause-adds : goal.returns-clause-adds
returns-clause-adds g c =
    let x = c.args.self.now in
    let P : ℕ → Type 0 = λ n. AddsTo (g.V.Volume.state c.args.volume.now) (g.V.Volume.state c.sync_if_attached.new.volume) x c.sync_if_attached.new.self n (head_padding x n) in
    subst P c.index_of.ensures.number c.sync_if_attached.ensures.adds

pub returns-clause-failed : goal.returns-clause-failed
returns-clause-failed g c =
    let x = c.args.self.now in
    let y = c.sync_if_attached.new.self in
    let P : ℕ → Type 0 = λ n. OnErr c.sync_if_attached.result ((buffer_of y n).tail ≡ (buffer_of x n).tail) in
    subst P c.index_of.ensures.number c.sync_if_attached.ensures.failed

pub returns-clause-works : goal.returns-clause-works
returns-clause-works g c =
    let a = g.V.Volume.state c.args.volume.now in
    let x = c.args.self.now in
    let P : ℕ → Type 0 = λ n. Works a (g.V.Volume.state c.sync_if_attached.new.volume) (IsOn x n) (IsHeadLeft a (buffer_of x n)) in
    subst P c.index_of.ensures.number c.sync_if_attached.ensures.works

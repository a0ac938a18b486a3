-- A bud's LEB is emptied, and then bytes are added to the log.
use Rattle.std.proofs.Common.{◌≡◌, ◌⊎◌, inl, inr, ℕ, Bool, true, false, List, [], ap, sym, ◌∙◌, subst}
use Rattle.std.specs.Prelude.{◌≢◌}
use Rattle.ubi_volume.specs.Volume.{VolumeState, filled, Torn, UnderWay, WorksOn, ChangeUnderWay}
use Rattle.ubi_volume.specs.Frame.{Works}
use Rattle.ubi_volume.specs.FrameLaws.{Works-on, Works-then, Works-more}
use Rattle.bud_log.specs.Log.{next_leb}
use Rattle.bud_log.specs.LogAt.{LogAt, lnum_at}
use Rattle.bud_log.specs.LogCalls.{IsEmptied, AddDuring, OpenUnderWay}

-- bytes are added to a log after another LEB was emptied
added_later : (here : Bool) (a b : VolumeState) (at : LogAt) (bud n : ℕ) (c : List ℕ) (P : List ℕ → Type 0) → lnum_at here at ≢ bud → b.leb_size ≡ a.leb_size → WorksOn a b bud P → AddDuring here b at n c → AddDuring here a at n c
added_later true a b at bud n c P ne same w (inl now) = inl (w.others_left at.lnum c ne now)
added_later true a b at bud n c P ne same w (inr (d, is, torn)) = inr (d, w.others_mapped at.lnum d ne is, torn)
added_later false a b at bud n c P ne same w (inl (inl now)) = inl (inl (w.others_left (next_leb at.geo at.lnum) c ne now))
added_later false a b at bud n c P ne same w (inl (inr e)) = inl (inr (e ∙ ap (λ (size : ℕ). filled size []) same))
added_later false a b at bud n c P ne same w (inr torn) = let Q : ℕ → Type 0 = λ size. Torn 0 n (filled size []) c in inr (subst Q same torn)

-- a bud's LEB is emptied, whatever the answer
pub emptied_works : (here : Bool) (a b : VolumeState) (at : LogAt) (bud n : ℕ) → lnum_at here at ≢ bud → WorksOn a b bud (ChangeUnderWay a bud [])
    → Works a b (λ k. (k ≡ bud) ⊎ (k ≡ lnum_at here at)) (OpenUnderWay here a at bud n)
emptied_works here a b at bud n ne w =
    let T : ℕ → Type 0 = λ k. k ≡ bud in
    let V : ℕ → Type 0 = λ k. (k ≡ bud) ⊎ (k ≡ lnum_at here at) in
    Works-more a b T V (UnderWay a bud (ChangeUnderWay a bud [])) (OpenUnderWay here a at bud n) (λ k e. inl e) (λ x u. (λ k no_bud there. u.0 k no_bud, inl (u.1, u.0 (lnum_at here at) ne)))
    (Works-on a b bud (ChangeUnderWay a bud []) w)

-- and then bytes are added
pub opened_works : (here : Bool) (a b c : VolumeState) (at : LogAt) (bud n : ℕ) → lnum_at here at ≢ bud → b.leb_size ≡ a.leb_size → IsEmptied a b bud → WorksOn a b bud (ChangeUnderWay a bud []) → WorksOn b c (lnum_at here at) (AddDuring here b at n)
    → Works a c (λ k. (k ≡ bud) ⊎ (k ≡ lnum_at here at)) (OpenUnderWay here a at bud n)
opened_works here a b c at bud n ne same done ab bc =
    let there = lnum_at here at in
    let U : ℕ → Type 0 = λ k. k ≡ there in
    let V : ℕ → Type 0 = λ k. (k ≡ bud) ⊎ (k ≡ there) in
    let D = OpenUnderWay here a at bud n in
    Works-then a b c V U V D (UnderWay b there (AddDuring here b at n)) D (λ k v. v) (λ k e. inr e) (λ x d. d)
    (λ x u. (
      λ k no_bud no_there. ab.others_left k (x k) no_bud (u.0 k no_there),
      inr (done.left (x bud) (u.0 bud (λ e. ne (sym e))), added_later here a b at bud n (x there) (ChangeUnderWay a bud []) ne same ab u.1),
    ))
    (emptied_works here a b at bud n ne ab) (Works-on b c there (AddDuring here b at n) bc)

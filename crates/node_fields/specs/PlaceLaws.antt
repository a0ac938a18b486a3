-- A number at a place of a body.
use Rattle.std.proofs.Common.{◌≡◌, ℕ, ◌+◌, List, ◌++◌, length, drop, sym, ap, ◌∙◌, drop-drop}
use Rattle.std.proofs.Math.Seq.{drop-append_seam}

pub drop_front : (n : ℕ) (front back : List ℕ) → length front ≡ n → drop n (front ++ back) ≡ back
drop_front n front back e = ap (λ k. drop k (front ++ back)) (sym e) ∙ drop-append_seam front back

-- what is written at a place stands there, before what stood behind it
pub written_at : (at width : ℕ) (front back old body bytes : List ℕ) → length front ≡ at → back ≡ bytes ++ drop width old → old ≡ drop at body
    → drop at (front ++ back) ≡ bytes ++ drop (at + width) body
written_at at width front back old body bytes long new was =
    drop_front at front back long ∙ new ∙ ap (λ b. bytes ++ b) (ap (drop width) was ∙ drop-drop width at body)

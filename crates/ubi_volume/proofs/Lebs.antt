-- One LEB, of which some bytes are replaced.
use Rattle.std.proofs.Common.{◌≡◌, ℕ, ◌+◌, ◌-◌, ◌≤◌, List, length, drop, replicate, subst, ap, sym, ◌∙◌, arith}
use Rattle.std.proofs.Math.Seq.{drop-append_seam}
use Rattle.std.proofs.lemmas.List.{drop-drop, drop-replicate}
use Rattle.ubi_volume.specs.Volume.{put, filled, Torn}
use Rattle.ubi_volume.specs.TornLaws.{Torn-put}

-- behind bytes that fill a LEB it is 255
pub drop-filled : (size : ℕ) (bytes : List ℕ) → drop (length bytes) (filled size bytes) ≡ replicate (size - length bytes) 255
drop-filled size bytes = drop-append_seam bytes (replicate (size - length bytes) 255)

-- further behind the written part it is 255 too
drop-more : (written k size : ℕ) (old : List ℕ) → drop written old ≡ replicate (size - written) 255 → drop (written + k) old ≡ replicate (size - (written + k)) 255
drop-more written k size old blank =
    let less : (size - written) - k ≡ size - (written + k) = omega arith in
    sym (drop-drop k written old) ∙ ap (drop k) blank ∙ drop-replicate k (size - written) 255 ∙ ap (λ n. replicate n 255) less

-- behind a write under way behind the written part it is 255
pub drop-torn : (offs n written size : ℕ) (old new : List ℕ) → written ≤ offs → drop written old ≡ replicate (size - written) 255
    → Torn offs n old new → drop (offs + n) new ≡ replicate (size - (offs + n)) 255
drop-torn offs n written size old new behind blank torn =
    let e : written + ((offs + n) - written) ≡ offs + n = omega arith in
    let IsBlank : ℕ → Type 0 = λ k. drop k old ≡ replicate (size - k) 255 in
    torn.back ∙ subst IsBlank e (drop-more written ((offs + n) - written) size old blank)

-- and so behind bytes that were put there
pub drop-put : (offs written size : ℕ) (bytes old : List ℕ) → written ≤ offs → offs + length bytes ≤ length old
    → drop written old ≡ replicate (size - written) 255 → drop (offs + length bytes) (put offs bytes old) ≡ replicate (size - (offs + length bytes)) 255
drop-put offs written size bytes old behind fits blank = drop-torn offs (length bytes) written size old (put offs bytes old) behind blank (Torn-put offs bytes old fits)

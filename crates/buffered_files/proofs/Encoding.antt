-- Bytes of a page, with zeros up to its file's end.
use Rattle.std.proofs.Common.{◌≡◌, ℕ, ◌-◌, List, ◌++◌, length, true, refl, sym, ap, ◌∙◌, arith, length-append, max}
use Rattle.std.specs.Prelude.{◌==◌, replicate, take, drop, zero, suc, [], ◌∷◌}
use Rattle.std.specs.List.{list_all}
use Rattle.std.proofs.Math.Seq.{take-append_seam, drop-append_seam}
use Rattle.std.proofs.lemmas.Bool.{and_parts, eqb-true}
use Rattle.std.proofs.lemmas.List.{length-drop, length-replicate, take-append-drop}
use Rattle.buffered_files.specs.Present.{filled}

zeros_are : (n : ℕ) → list_all (λ b. b == 0) (replicate n 0) ≡ true
zeros_are zero = refl
zeros_are (suc n) = zeros_are n

are_zeros : (bytes : List ℕ) → list_all (λ b. b == 0) bytes ≡ true → bytes ≡ replicate (length bytes) 0
are_zeros [] h = refl
are_zeros (b ∷ bytes) h =
    let p = and_parts (b == 0) (list_all (λ c. c == 0) bytes) h in
    let first : b ≡ 0 = eqb-true b 0 p.0 in
    let rest = are_zeros bytes p.1 in
    ap (λ c. c ∷ bytes) first ∙ ap (λ r. 0 ∷ r) rest

pub filled_length : (old new : List ℕ) (len : ℕ) → filled old len ≡ new → length new ≡ max (length old) len
filled_length old new len h =
    let e = ap (λ l. length l) (sym h) ∙ length-append old (replicate (len - length old) 0) in
    let z : length {A = ℕ} (replicate (len - length old) 0) ≡ len - length old = length-replicate (len - length old) 0 in
    omega (arith, e, z)

pub filled_front : (old new : List ℕ) (len : ℕ) → filled old len ≡ new → take (length old) new ≡ old
filled_front old new len h = ap (λ l. take (length old) l) (sym h) ∙ take-append_seam old (replicate (len - length old) 0)

pub filled_back : (old new : List ℕ) (len : ℕ) → filled old len ≡ new → list_all (λ b. b == 0) (drop (length old) new) ≡ true
filled_back old new len h = ap (λ l. list_all (λ b. b == 0) (drop (length old) l)) (sym h) ∙ ap (λ l. list_all (λ b. b == 0) l) (drop-append_seam old (replicate (len - length old) 0)) ∙ zeros_are (len - length old)

pub is_filled : (old new : List ℕ) (len : ℕ) → length new ≡ max (length old) len → take (length old) new ≡ old → list_all (λ b. b == 0) (drop (length old) new) ≡ true → filled old len ≡ new
is_filled old new len h front back =
    let z = are_zeros (drop (length old) new) back in
    let l = length-drop (length old) new in
    let n : length (drop (length old) new) ≡ len - length old = omega (arith, h, l) in
    sym (ap (λ f. f ++ replicate (len - length old) 0) front) ∙ ap (λ k. take (length old) new ++ replicate k 0) (sym n) ∙ ap (λ b. take (length old) new ++ b) (sym z) ∙ take-append-drop (length old) new

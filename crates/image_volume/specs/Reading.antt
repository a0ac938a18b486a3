-- What is read of a LEB of an image: the image's bytes at its place, and erased ones behind their end.
use Rattle.std.proofs.Common.{◌≡◌, ℕ, ◌+◌, ◌-◌, ◌*◌, ◌<◌, ◌≤◌, min, List, [], ◌++◌, length, take, drop, replicate, refl, subst, ap, sym, ◌∙◌, arith, inl, inr, drop-drop, length-append, length-take}
use Rattle.std.specs.Prelude.{slice_range}
use Rattle.std.proofs.Math.Seq.{take-append-add, drop-append-add}
use Rattle.std.proofs.lemmas.Bool.{cases_lt}
use Rattle.std.proofs.lemmas.List.{append-nil, drop-append-le, drop-replicate, drop-take, drop_all, length-drop, take-append-le, take-replicate, take-take, take_all}
use Rattle.ubi_volume.specs.Loading.{leb_of}
use Rattle.ubi_volume.specs.Volume.{filled}

-- so many of these bytes and of erased ones behind them
front_filled : (n more : ℕ) (bytes : List ℕ) → n ≤ length bytes + more → take n (bytes ++ replicate more 255) ≡ filled n (take n bytes)
front_filled n more bytes room =
    elim (cases_lt (length bytes) n) [
      | inl short ↦
          let rest = n - length bytes in
          let e : length bytes + rest ≡ n = omega (arith, short) in
          let all : take n bytes ≡ bytes = take_all n bytes (omega (arith, short)) in
          let F : List ℕ → List ℕ = filled n in
          ap (λ k. take k (bytes ++ replicate more 255)) (sym e) ∙ take-append-add bytes (replicate more 255) rest
          ∙ ap (λ xs. bytes ++ xs) (take-replicate rest more 255 (omega (arith, room, short))) ∙ ap F (sym all)
      | inr enough ↦
          let len = length-take n bytes in
          let none : n - length (take n bytes) ≡ 0 = omega (arith, len, enough) in
          take-append-le n bytes (replicate more 255) enough ∙ sym (append-nil (take n bytes)) ∙ ap (λ k. take n bytes ++ replicate k 255) (sym none)
    ]

-- so many of these bytes and of erased ones behind them, from a place on
behind_filled : (offs n size : ℕ) (bytes : List ℕ) → offs + n ≤ size → take n (drop offs (bytes ++ replicate size 255)) ≡ filled n (take n (drop offs bytes))
behind_filled offs n size bytes room =
    elim (cases_lt (length bytes) offs) [
      | inl past ↦
          let rest = offs - length bytes in
          let e : length bytes + rest ≡ offs = omega (arith, past) in
          let gone : drop offs bytes ≡ [] = drop_all offs bytes (omega (arith, past)) in
          let P : List ℕ → Type 0 = λ xs. take n (drop offs (bytes ++ replicate size 255)) ≡ filled n (take n xs) in
          subst P (sym gone)
          (ap (λ k. take n (drop k (bytes ++ replicate size 255))) (sym e) ∙ ap (take n) (drop-append-add bytes (replicate size 255) rest ∙ drop-replicate rest size 255)
          ∙ front_filled n (size - rest) [] (omega (arith, room, past)))
      | inr within ↦ ap (take n) (drop-append-le offs bytes (replicate size 255) within) ∙ front_filled n size (drop offs bytes) (omega (arith, room))
    ]

-- what a read of a LEB gives, as the image's bytes at its place
pub read_of : (size lnum offs n : ℕ) (image : List ℕ) → offs + n ≤ size
    → slice_range (leb_of size image lnum) offs (offs + n) ≡ filled n (take n (drop (lnum * size + offs) image))
read_of size lnum offs n image room =
    let bytes = drop (lnum * size) image in
    let count : offs + n - offs ≡ n = omega arith in
    let rest = size - offs in
    let e : offs + rest ≡ size = omega (arith, room) in
    let whole : leb_of size image lnum ≡ take size (bytes ++ replicate size 255) = sym (front_filled size size bytes (omega arith)) in
    ap (λ k. take k (drop offs (leb_of size image lnum))) count ∙ ap (λ xs. take n (drop offs xs)) whole
    ∙ ap (λ k. take n (drop offs (take k (bytes ++ replicate size 255)))) (sym e)
    ∙ ap (take n) (drop-take offs rest (bytes ++ replicate size 255)) ∙ take-take n rest (drop offs (bytes ++ replicate size 255)) (omega (arith, room))
    ∙ behind_filled offs n size bytes room ∙ ap (λ xs. filled n (take n xs)) (drop-drop offs (lnum * size) image)

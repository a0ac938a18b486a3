-- Bytes that are read into a part of a buffer.
use Rattle.std.proofs.Common.{◌≡◌, ℕ, ◌+◌, ◌-◌, ◌≤◌, List, ◌++◌, length, take, drop, ap, ◌∙◌, arith, length-drop}
use Rattle.std.proofs.lemmas.List.{length-take-le}
use Rattle.std.proofs.Math.Seq.{take-append_seam}

-- the bytes that are read
pub read_bytes : (leb : List ℕ) (offs n len : ℕ) → n ≡ len → take (offs + n - offs) (drop offs leb) ≡ take len (drop offs leb)
read_bytes leb offs n len e = let same : offs + n - offs ≡ len = omega (arith, e) in ap (λ k. take k (drop offs leb)) same

-- the front of what was written in front
pub written_front : (xs ys : List ℕ) (n : ℕ) → n ≡ length xs → take n (xs ++ ys) ≡ xs
written_front xs ys n e = ap (λ k. take k (xs ++ ys)) e ∙ take-append_seam xs ys

-- as many as are there
pub taken_length : (leb : List ℕ) (offs len : ℕ) → offs + len ≤ length leb → length (take len (drop offs leb)) ≡ len
taken_length leb offs len room = let cut = length-drop offs leb in length-take-le len (drop offs leb) (omega (arith, room, cut))

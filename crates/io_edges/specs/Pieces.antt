-- Bytes that are given piece by piece.
use Rattle.std.specs.Prelude.{◌≡◌, ℕ, zero, suc, List, [], ◌++◌}

-- how many pieces there are, how many bytes each has, and which those of a number from 0 on are
pub record PieceList : Type 0 where
  pub count : ℕ
  pub size : ℕ
  pub piece : ℕ → List ℕ

-- the first n pieces, one behind another
abbrev pub first_pieces : (ℕ → List ℕ) → ℕ → List ℕ
first_pieces piece zero = []
first_pieces piece (suc n) = first_pieces piece n ++ piece n

-- all bytes
abbrev pub bytes_in : PieceList → List ℕ
bytes_in pieces = first_pieces pieces.piece pieces.count

-- the pieces are as they were
pub record SamePieces (old new : PieceList) : Type 0 where
  pub count : new.count ≡ old.count
  pub size : new.size ≡ old.size
  pub piece : (k : ℕ) → new.piece k ≡ old.piece k

-- Parts of lists of bytes are lists of bytes.
use Rattle.std.proofs.Common.{ℕ, zero, suc, ◌+◌, ◌<◌, List, [], ◌∷◌, take, drop, get_or, get_or-drop, arith}
use Rattle.ubifs_base.specs.NodeLaws.{IsBytes}

pub bytes_drop : (n : ℕ) (bytes : List ℕ) → IsBytes bytes → IsBytes (drop n bytes)
bytes_drop n bytes fits = λ i. rw get_or-drop (fits (n + i))

bytes_cons : (x : ℕ) (bytes : List ℕ) → x < 256 → IsBytes bytes → (i : ℕ) → get_or (x ∷ bytes) i 0 < 256
bytes_cons x bytes first rest zero = first
bytes_cons x bytes first rest (suc i) = rest i

pub bytes_take : (n : ℕ) (bytes : List ℕ) → IsBytes bytes → IsBytes (take n bytes)
bytes_take zero bytes fits = λ i. omega arith
bytes_take (suc n) [] fits = fits
bytes_take (suc n) (x ∷ bytes) fits = bytes_cons x (take n bytes) (fits 0) (bytes_take n bytes (λ i. fits (suc i)))

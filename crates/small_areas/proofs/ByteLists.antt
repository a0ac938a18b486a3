-- Lists of bytes that are put together are lists of bytes.
use Rattle.std.proofs.Common.{inl, inr, ℕ, zero, suc, ◌+◌, ◌-◌, ◌<◌, List, [], ◌∷◌, ◌++◌, length, take, drop, replicate, get_or, get_or-drop, sym, subst, arith}
use Rattle.ubifs_base.specs.NodeLaws.{IsBytes}
use Rattle.ubi_volume.specs.Volume.{VolumeState}
use Rattle.small_areas.specs.Copies.{IsCopied}

bytes_cons : (x : ℕ) (bytes : List ℕ) → x < 256 → IsBytes bytes → (i : ℕ) → get_or (x ∷ bytes) i 0 < 256
bytes_cons x bytes first rest zero = first
bytes_cons x bytes first rest (suc i) = rest i

bytes_append : (a b : List ℕ) → IsBytes a → IsBytes b → IsBytes (a ++ b)
bytes_append [] b fa fb = fb
bytes_append (x ∷ a) b fa fb = bytes_cons x (a ++ b) (fa 0) (bytes_append a b (λ i. fa (suc i)) fb)

bytes_drop : (n : ℕ) (bytes : List ℕ) → IsBytes bytes → IsBytes (drop n bytes)
bytes_drop n bytes fits = λ i. rw get_or-drop (fits (n + i))

bytes_take : (n : ℕ) (bytes : List ℕ) → IsBytes bytes → IsBytes (take n bytes)
bytes_take zero bytes fits = λ i. omega arith
bytes_take (suc n) [] fits = fits
bytes_take (suc n) (x ∷ bytes) fits = bytes_cons x (take n bytes) (fits 0) (bytes_take n bytes (λ i. fits (suc i)))

bytes_replicate : (n x : ℕ) → x < 256 → IsBytes (replicate n x)
bytes_replicate zero x fits = λ i. omega arith
bytes_replicate (suc n) x fits = bytes_cons x (replicate n x) fits (bytes_replicate n x fits)

-- what a LEB holds after a copy
pub copied_bytes : (old new : VolumeState) (lnum room : ℕ) (copy : List ℕ) → IsBytes (old.holds lnum) → IsBytes copy → IsCopied old new lnum room copy → IsBytes (new.holds lnum)
copied_bytes old new lnum room copy fits is (inl (place, is_place, w)) =
    let P : List ℕ → Type 0 = λ bytes. IsBytes bytes in
    let front = bytes_append (take place (old.holds lnum)) copy (bytes_take place (old.holds lnum) fits) is in
    subst P (sym w.holds) (bytes_append (take place (old.holds lnum) ++ copy) (drop (place + length copy) (old.holds lnum)) front (bytes_drop (place + length copy) (old.holds lnum) fits))
copied_bytes old new lnum room copy fits is (inr (none, w)) =
    let P : List ℕ → Type 0 = λ bytes. IsBytes bytes in
    subst P (sym w.holds) (bytes_append copy (replicate (old.leb_size - length copy) 255) is (bytes_replicate (old.leb_size - length copy) 255 (omega arith)))

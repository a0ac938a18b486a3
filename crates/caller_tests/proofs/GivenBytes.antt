-- Bytes that a caller gives.
use Rattle.std.proofs.Common.{ℕ, suc, ◌<◌, IsTrue, List, [], ◌∷◌, refl, arith, get_or}
use Rattle.std.specs.Prelude.{nat_lt}
use Rattle.std.proofs.lemmas.Bool.{and_from}
use Rattle.std.proofs.lemmas.Bool.Decides.{nat_tests}
use Rattle.fs_model.specs.Proper.{are_bytes}

-- items below 256 are bytes
pub given_bytes : (bytes : List ℕ) → ((i : ℕ) → get_or bytes i 0 < 256) → IsTrue (are_bytes bytes)
given_bytes [] h = refl
given_bytes (b ∷ bytes) h =
    let first = h 0 in
    and_from (nat_lt b 256) (are_bytes bytes) (grind (arith, nat_tests, first)) (given_bytes bytes (λ i. h (suc i)))

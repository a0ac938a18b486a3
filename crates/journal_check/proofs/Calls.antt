-- Contents that are alike LEB by LEB.
use Rattle.std.proofs.Common.{◌≡◌, ℕ, List}

-- contents that are alike LEB by LEB are the same
pub same_contents : (c d : ℕ → List ℕ) → ((k : ℕ) → c k ≡ d k) → c ≡ d
same_contents c d h = λ i k. h k i

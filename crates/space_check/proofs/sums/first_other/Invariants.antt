use Rattle.std.proofs.Common.{◌≡◌, ℕ, ◌<◌, get_or}
use Rattle.space_check.proofs.sums.first_other.Given as goal

-- the sums so far are all bytes of a LEB
abbrev pub invariant-loop-at : goal.invariant-loop-at
invariant-loop-at l = (k : ℕ) → k < l.at → get_or l.sums k 0 ≡ l.whole

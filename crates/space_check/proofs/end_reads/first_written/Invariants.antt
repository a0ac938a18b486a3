use Rattle.std.proofs.Common.{◌≡◌, ℕ, ◌<◌, get_or}
use Rattle.space_check.proofs.end_reads.first_written.Given as goal

-- the bytes so far are unwritten
abbrev pub invariant-loop-at : goal.invariant-loop-at
invariant-loop-at l = (k : ℕ) → k < l.at → get_or l.end k 255 ≡ 255

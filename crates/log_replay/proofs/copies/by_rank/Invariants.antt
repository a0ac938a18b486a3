use Rattle.std.proofs.Common.{◌≡◌, ℕ}
use Rattle.std.specs.Prelude.{filter}
use Rattle.log_replay.specs.Copies.{at_rank, is_of_rank}
use Rattle.log_replay.proofs.copies.by_rank.Given as goal

abbrev pub invariant-loop-copy : goal.invariant-loop-copy
invariant-loop-copy l = (r : ℕ) → at_rank l.ranked r ≡ filter (is_of_rank r) l.yielded

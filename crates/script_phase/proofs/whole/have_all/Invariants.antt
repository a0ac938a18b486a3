use Rattle.std.proofs.Common.{◌≡◌, ℕ, ◌+◌, ◌<◌, get_or}
use Rattle.trace_word.specs.Knowledge.{lines_of}
use Rattle.script_phase.proofs.whole.have_all.Given as goal

abbrev pub invariant-loop-index : goal.invariant-loop-index
invariant-loop-index l = (k : ℕ) → k < l.index → lines_of (k + 1) l.trace ≡ get_or l.counts k 0

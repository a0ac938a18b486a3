-- The bytes so far and those of the rest are all bytes.
use Rattle.std.proofs.Common.{◌≡◌, ◌++◌, List, ℕ, length}
use Rattle.script_text.specs.Words.{IsWordSpelled}
use Rattle.script_text.proofs.words.spelled.Given as goal

abbrev pub invariant-loop-rest : goal.invariant-loop-rest
invariant-loop-rest l = record {
  whole : (tail : List ℕ) → IsWordSpelled l.rest tail → IsWordSpelled l.word (l.bytes.items ++ tail);
  only : (all : List ℕ) → IsWordSpelled l.word all → (tail : List ℕ) × IsWordSpelled l.rest tail × (all ≡ l.bytes.items ++ tail);
}

abbrev pub decreases-loop-rest : goal.decreases-loop-rest
decreases-loop-rest l = length l.rest

use Rattle.std.proofs.Common.{◌≡◌, ◌++◌, map}
use Rattle.leaf_check.specs.Committed.{intact_leaves}
use Rattle.leaf_check.specs.declared.leaf_answer.LeafAnswer.{LeafAnswer}
use Rattle.leaf_check.proofs.committed.keep_answers.Given as goal

-- what is kept so far, with what is left, is all
abbrev pub invariant-keeping : goal.invariant-keeping
invariant-keeping l =
    (l.committed.items ++ map (λ (answer : LeafAnswer). answer.told) l.answer-iterator.rest.items ≡ l.fn.committed.items ++ map (λ (answer : LeafAnswer). answer.told) l.fn.answers.items)
    × (l.intact.items ++ intact_leaves l.answer-iterator.rest.items ≡ l.fn.intact.items ++ intact_leaves l.fn.answers.items)

use Rattle.whole_image.proofs.Covered.{covered, not_crowded, not_full}
use Rattle.whole_image.proofs.law.a_covered_tree_has_room.Goals as goal

pub returns-clause-full : goal.returns-clause-full
returns-clause-full c = not_full

pub returns-clause-crowded : goal.returns-clause-crowded
returns-clause-crowded c = λ geo tree need room ranges proper promised.
    let few = c.leaves_of_a_tree_are_few.ensures in
    not_crowded geo tree need room ranges (covered geo tree promised (few.count tree proper)) (few.some tree proper) (λ leaves weight. c.an_index_takes_few_lebs.ensures geo leaves weight ranges) (few.lebs geo tree ranges proper)

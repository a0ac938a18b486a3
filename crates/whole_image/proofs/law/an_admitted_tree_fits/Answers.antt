use Rattle.whole_image.proofs.Covered.{admitted, admitted_not_full, not_crowded}
use Rattle.whole_image.proofs.law.an_admitted_tree_fits.Goals as goal

pub returns-clause-full : goal.returns-clause-full
returns-clause-full c = λ geo tree is. admitted_not_full geo tree (c.an_admitted_tree_has_room.ensures.fits geo tree is)

pub returns-clause-crowded : goal.returns-clause-crowded
returns-clause-crowded c = λ geo tree need room ranges proper is.
    let few = c.leaves_of_a_tree_are_few.ensures in
    let admission = c.an_admitted_tree_has_room.ensures in
    not_crowded geo tree need room ranges (admitted geo tree (admission.weighed geo tree ranges) (admission.fits geo tree is)) (few.some tree proper)
    (λ leaves weight. c.an_index_takes_few_lebs.ensures geo leaves weight ranges) (few.lebs geo tree ranges proper)

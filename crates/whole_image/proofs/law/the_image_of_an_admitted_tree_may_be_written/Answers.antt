use Rattle.whole_image.proofs.Writable.{may_be_written, stored_bytes}
use Rattle.whole_image.proofs.law.the_image_of_an_admitted_tree_may_be_written.Goals as goal

pub returns-clause-settled : goal.returns-clause-settled
returns-clause-settled c = λ geo tree space ranges proper is made used main.
    let few = c.leaves_of_a_tree_are_few.ensures in
    let admission = c.an_admitted_tree_has_room.ensures in
    may_be_written geo tree space ranges (few.some tree proper) (admission.weighed geo tree ranges) (admission.fits geo tree is) (λ leaves weight. c.an_index_takes_few_lebs.ensures geo leaves weight ranges)
    (few.lebs geo tree ranges proper) made used main

pub returns-clause-stored : goal.returns-clause-stored
returns-clause-stored c = stored_bytes
